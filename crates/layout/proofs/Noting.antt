-- What a report that is noted leaves of a table.
use Rattle.std.specs.Prelude.{◌↔◌, IsTrue}
use Rattle.std.specs.Cmp.Derive.{both_true}
use Rattle.std.proofs.Common.{◌≡◌, ℕ, ◌+◌, ◌<◌, ◌≤◌, Bool, ◌&&◌, List, length, get_or, sym, ap, ◌∙◌, subst, ⊎_elim, arith}
use Rattle.std.proofs.lemmas.Bool.{cases_lt, and_parts}
use Rattle.host.specs.declared.records.Report.{Report}
use Rattle.host.specs.Calls.{no_report}
use Rattle.layout.specs.declared.record.ColumnRecord.{ColumnRecord}
use Rattle.layout.specs.declared.table.ColumnTable.{ColumnTable}
use Rattle.layout.specs.Columns.{noted, Plain}
use Rattle.layout.specs.Tables.{count_of, col, NotedAt, SamePlaces}

pub same_places : (t u v : ColumnTable) → SamePlaces t u → SamePlaces u v → SamePlaces t v
same_places t u v a b = record {
  count = b.count ∙ a.count;
  room = b.room ∙ a.room;
  binds_same = b.binds_same ∙ a.binds_same;
  end_same = b.end_same ∙ a.end_same;
}

-- the reports of the columns below i are noted, and no others
pub record NotedTo (i : ℕ) (old : ColumnTable) (reports : List Report) (new : ColumnTable) : Type 0 where
  pub below : (k : ℕ) → k < i → k < count_of old → col new k ≡ noted (col old k) (get_or reports k no_report)
  pub above : (k : ℕ) → i ≤ k → col new k ≡ col old k

pub noted_more : (t u v : ColumnTable) (rs : List Report) (i : ℕ) → count_of u ≡ count_of t → NotedTo i t rs u → NotedAt i u (get_or rs i no_report) v → NotedTo (i + 1) t rs v
noted_more t u v rs i c h n = record {
  below = λ k m g. ⊎_elim
      (λ (q : k < i). n.others k (λ e. omega arith) ∙ h.below k q g)
      (λ (q : i ≤ k).
      let e : i ≡ k = omega arith in
      subst (λ (k : ℕ). k < count_of t → col v k ≡ noted (col t k) (get_or rs k no_report)) e
      (λ o. n.here (omega arith) ∙ ap (λ (z : ColumnRecord). noted z (get_or rs i no_report)) (h.above i (omega arith))) g)
      (cases_lt k i);
  above = λ k m. n.others k (λ e. omega arith) ∙ h.above k (omega arith);
}

-- the columns below i are plain
abbrev pub PlainBelow : ℕ → ColumnTable → Type 0
PlainBelow i t = (k : ℕ) → k < i → k < count_of t → Plain (col t k)

-- whether those below i + 1 are, once column i has its report
pub plain_more : (u v : ColumnTable) (r : Report) (i : ℕ) (p q : Bool) (E : Type 0) → (IsTrue p ↔ (E × PlainBelow i u)) → NotedAt i u r v → (i < count_of u → (IsTrue q ↔ Plain (col v i))) → (count_of u ≤ i → IsTrue q)
    → (IsTrue (p && q) ↔ (E × PlainBelow (i + 1) v))
plain_more u v r i p q E h n here past = (
  λ e.
      let b = and_parts p q e in (
        (h.0 b.0).0,
        λ k l o. ⊎_elim
            (λ (m : k < i). subst Plain (sym (n.others k (λ e. omega arith))) ((h.0 b.0).1 k m (omega (arith, n.count))))
            (λ (m : i ≤ k). let z : i ≡ k = omega arith in subst (λ (k : ℕ). k < count_of v → Plain (col v k)) z (λ o. (here (omega (arith, n.count))).0 b.1) o)
            (cases_lt k i),
      ),
  λ (x, below). both_true
      (h.1 (x, λ k l o. subst Plain (n.others k (λ e. omega arith)) (below k (omega arith) (omega (arith, n.count)))))
      (⊎_elim
      (λ (m : i < count_of u). (here m).1 (below i (omega arith) (omega (arith, n.count))))
      (λ (m : count_of u ≤ i). past m)
      (cases_lt i (count_of u))),
)

-- the reports so far are noted, and it is known whether all columns that are to have one are plain
pub record NotedSoFar (i : ℕ) (old : ColumnTable) (reports : List Report) (new : ColumnTable) (plain : Bool) : Type 0 where
  pub noted : NotedTo i old reports new
  pub places : SamePlaces old new
  pub all_plain : IsTrue plain ↔ ((count_of old ≤ length reports) × PlainBelow i new)
