-- A row, written to its places column by column.
-- Assumes nothing.
use Rattle.std.proofs.Common.{◌≡◌, ℕ, zero, suc, ◌+◌, ◌<◌, ◌≤◌, Bool, true, false, ◌||◌, leb, ◌≢◌, List, [], ◌∷◌, length, get_or, drop, set, sym, refl, ap, ◌∙◌, subst, ⊎_elim, arith, below_more}
use borrow.Rule.Slice.PartMut.{put_mid}
use Rattle.std.proofs.lemmas.List.{get_or-set_same, get_or-set_other, drop_more, drop_all}
use Rattle.std.proofs.lemmas.Bool.{cases_lt, and_parts, leb-true}
use Rattle.host.specs.declared.records.BindRecord.{BindRecord}
use Rattle.host.specs.declared.records.Report.{Report}
use Rattle.host.specs.Fields.{Field, null, held}
use Rattle.host.specs.Meanings.{Row}
use Rattle.host.specs.Calls.{place_end, in_order, all_end_by, no_bind, no_report, field_of, from_offset, truncates, Reported, PartReported, Stands, Untouched, any_truncates}
use Rattle.host.proofs.Placed.{put_inside, put_below, put_above, whole_reported, truncates_is, whole_stands}
use Rattle.std.proofs.Math.Bool.{or-false}

-- where places lie

pub inside_at : (n : ℕ) (ps : List BindRecord) → all_end_by n ps ≡ true → (k : ℕ) → k < length ps → place_end (get_or ps k no_bind) ≤ n
inside_at n [] e k l = absurd (omega arith)
inside_at n (p ∷ ps) e zero l = leb-true (place_end p) n (and_parts (leb (place_end p) n) (all_end_by n ps) e).0
inside_at n (p ∷ ps) e (suc k) l = inside_at n ps (and_parts (leb (place_end p) n) (all_end_by n ps) e).1 k (omega arith)

starts_from : (from : ℕ) (ps : List BindRecord) → in_order from ps ≡ true → (k : ℕ) → k < length ps → from ≤ (get_or ps k no_bind).start
starts_from from [] e k l = absurd (omega arith)
starts_from from (p ∷ ps) e zero l = leb-true from p.start (and_parts (leb from p.start) (in_order (place_end p) ps) e).0
starts_from from (p ∷ ps) e (suc k) l =
    let h = and_parts (leb from p.start) (in_order (place_end p) ps) e in
    let a = leb-true from p.start h.0 in
    let b = starts_from (place_end p) ps h.1 k (omega arith) in
    omega arith

pub ends_before : (from : ℕ) (ps : List BindRecord) → in_order from ps ≡ true → (i k : ℕ) → i < k → k < length ps → place_end (get_or ps i no_bind) ≤ (get_or ps k no_bind).start
ends_before from [] e i k m l = absurd (omega arith)
ends_before from (p ∷ ps) e i zero m l = absurd (omega arith)
ends_before from (p ∷ ps) e zero (suc k) m l = starts_from (place_end p) ps (and_parts (leb from p.start) (in_order (place_end p) ps) e).1 k (omega arith)
ends_before from (p ∷ ps) e (suc i) (suc k) m l = ends_before (place_end p) ps (and_parts (leb from p.start) (in_order (place_end p) ps) e).1 i k (omega arith) (omega arith)

stands_kept : (f : Field) (start n : ℕ) (a a' : List ℕ) → ((p : ℕ) → p < start + n → get_or a' p 0 ≡ get_or a p 0) → Stands f start n a → Stands f start n a'
stands_kept null start n a a' same s = tt
stands_kept (held lost bs) start n a a' same s = λ j l. same (start + j) (omega arith) ∙ s j l

or_assoc : (a b c : Bool) → (a || (b || c)) ≡ ((a || b) || c)
or_assoc true b c = refl
or_assoc false b c = refl

-- the columns below k are written, reported and counted, and bytes outside their places are as they were
pub record Written (k : ℕ) (r : Row) (ps : List BindRecord) (rs : List Report) (a₀ a : List ℕ) (z : Bool) : Type 0 where
  pub reported : (i : ℕ) → i < k → Reported (field_of r i (get_or ps i no_bind)) (get_or ps i no_bind).capacity (get_or rs i no_report)
  pub stands : (i : ℕ) → i < k → Stands (field_of r i (get_or ps i no_bind)) (get_or ps i no_bind).start (get_or ps i no_bind).capacity a
  pub outside : (p : ℕ) → ((i : ℕ) → i < k → (get_or ps i no_bind).start ≤ p → p < place_end (get_or ps i no_bind) → ⊥) → get_or a p 0 ≡ get_or a₀ p 0
  pub marked : any_truncates r 0 ps ≡ (z || any_truncates r k (drop k ps))

-- every column is written
pub record AllWritten (r : Row) (ps : List BindRecord) (rs : List Report) (a₀ a : List ℕ) (z : Bool) : Type 0 where
  pub reported : (i : ℕ) → i < length ps → Reported (field_of r i (get_or ps i no_bind)) (get_or ps i no_bind).capacity (get_or rs i no_report)
  pub stands : (i : ℕ) → i < length ps → Stands (field_of r i (get_or ps i no_bind)) (get_or ps i no_bind).start (get_or ps i no_bind).capacity a
  pub untouched : Untouched ps a₀ a
  pub marked : any_truncates r 0 ps ≡ z

module _ (r : Row) (ps : List BindRecord) (rs : List Report) (a₀ : List ℕ) where
  pub none_written : Written 0 r ps rs a₀ a₀ false
  none_written = record {
    reported = λ i l. absurd (omega arith);
    stands = λ i l. absurd (omega arith);
    outside = λ p out. refl;
    marked = refl;
  }

  pub all_written : (a : List ℕ) (z : Bool) (k : ℕ) → length ps ≡ k → length a ≡ length a₀ → Written k r ps rs a₀ a z → AllWritten r ps rs a₀ a z
  all_written a z k n same w = record {
    reported = λ i l. w.reported i (omega arith);
    stands = λ i l. w.stands i (omega arith);
    untouched = record { same_length = same; same_bytes = λ p out. w.outside p (λ i l from to. out (i, omega arith, from, to)) };
    marked = w.marked ∙ ap (λ xs. z || any_truncates r k xs) (drop_all k ps (omega arith)) ∙ or-false z;
  }

  -- one column more
  module _ (a : List ℕ) (z : Bool) (k : ℕ) (w : Written k r ps rs a₀ a z) (ordered : in_order 0 ps ≡ true) (l : k < length ps) (m : k < length rs) (n : ℕ) (part : List ℕ) (report : Report) where
    abbrev start : ℕ
    start = (get_or ps k no_bind).start

    abbrev cap : ℕ
    cap = (get_or ps k no_bind).capacity

    abbrev arena' : List ℕ
    arena' = put_mid start n a part

    pub more_written : place_end (get_or ps k no_bind) ≤ length a → n ≡ cap → length part ≡ n
        → (g : Field) → g ≡ field_of r k (get_or ps k no_bind) → (x : ℕ) → x ≡ cap → PartReported g 0 x report → Stands (from_offset 0 g) 0 x part
        → Written (k + 1) r ps (set rs k report) a₀ arena' (z || report.is_truncated)
    more_written inside hn long g hg x hx told there =
        let f = field_of r k (get_or ps k no_bind) in
        let whole = whole_reported f cap report (subst (λ (y : ℕ). PartReported f 0 y report) hx (subst (λ (y : Field). PartReported y 0 x report) hg told)) in
        let written = subst (λ (y : ℕ). Stands (from_offset 0 f) 0 y part) hx (subst (λ (y : Field). Stands (from_offset 0 y) 0 x part) hg there) in
        record {
          reported = below_more (λ i. Reported (field_of r i (get_or ps i no_bind)) (get_or ps i no_bind).capacity (get_or (set rs k report) i no_report)) k
              (λ i h. let ne : i ≢ k = omega arith in subst (λ (x : Report). Reported (field_of r i (get_or ps i no_bind)) (get_or ps i no_bind).capacity x) (sym (get_or-set_other rs k i report no_report ne)) (w.reported i h))
              (subst (λ (x : Report). Reported f cap x) (sym (get_or-set_same rs k report no_report m)) whole);
          stands = below_more (λ i. Stands (field_of r i (get_or ps i no_bind)) (get_or ps i no_bind).start (get_or ps i no_bind).capacity arena') k
              (λ i h.
              let before = ends_before 0 ps ordered i k h l in
              stands_kept (field_of r i (get_or ps i no_bind)) (get_or ps i no_bind).start (get_or ps i no_bind).capacity a arena' (λ p q. put_below start n a part (omega arith) long p (omega arith)) (w.stands i h))
              (whole_stands f start cap part arena' (λ j q. put_inside start n a part (omega arith) long j (omega arith)) written);
          outside = λ p out.
              let old = w.outside p (λ i h from to. out i (omega arith) from to) in
              ⊎_elim
              (λ (h : p < start). put_below start n a part (omega arith) long p h ∙ old)
              (λ (h : start ≤ p). ⊎_elim
              (λ (g : p < place_end (get_or ps k no_bind)). absurd (out k (omega arith) h g))
              (λ (g : place_end (get_or ps k no_bind) ≤ p). put_above start n a part (omega arith) long p (omega arith) ∙ old)
              (cases_lt p (place_end (get_or ps k no_bind))))
              (cases_lt p start);
          marked =
              let e : suc k ≡ k + 1 = omega arith in
              w.marked
              ∙ ap (λ xs. z || any_truncates r k xs) (drop_more ps k no_bind l)
              ∙ or_assoc z (truncates f cap) (any_truncates r (suc k) (drop (k + 1) ps))
              ∙ ap (λ b. (z || b) || any_truncates r (suc k) (drop (k + 1) ps)) (truncates_is f cap report whole)
              ∙ ap (λ x. (z || report.is_truncated) || any_truncates r x (drop (k + 1) ps)) e;
        }
