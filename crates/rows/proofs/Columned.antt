-- What holds of one column of a row that a host has current.
use Rattle.std.proofs.Common.{◌≡◌, ℕ, zero, suc, ◌+◌, ◌<◌, ◌≤◌, Bool, true, false, cond, ◌||◌, ltb, List, [], ◌∷◌, length, get_or, Some, None, Option, sym, ap, ◌∙◌, subst, arith}
use Rattle.std.proofs.lemmas.List.{ext_get_or}
use Rattle.std.proofs.lemmas.Bool.{and_parts, le-ltb, lt-ltb}
use Rattle.mysql.specs.declared.bind.Column.{Column}
use Rattle.mysql.specs.Types.{size_of}
use Rattle.host.specs.declared.records.BindRecord.{BindRecord}
use Rattle.host.specs.declared.records.Report.{Report}
use Rattle.host.specs.Fields.{Field, null, held, HeldAt, FieldAt}
use Rattle.host.specs.Meanings.{Row, Meaning}
use Rattle.host.specs.Calls.{no_bind, truncates, record_of, Reported}
use Rattle.layout.specs.declared.table.ColumnTable.{ColumnTable}
use Rattle.layout.specs.Columns.{bytes_by, bind_of}
use Rattle.layout.specs.Tables.{count_of, no_pair, col, binds}
use Rattle.layout.proofs.Binding.{binds_length, binds_at}
use Rattle.rows.specs.Bounds.{all_carried}
use Rattle.rows.specs.Standing.{pair_of, pairs_of}
use Rattle.rows.specs.Settling.{column_field, NotLost, Current}
use Rattle.rows.proofs.Pairs.{pairs_length, pair_at}

-- tables with the same pairs
pub same_pairs : (t u : ColumnTable) → count_of t ≡ count_of u → ((k : ℕ) → k < count_of u → pair_of (col t k) ≡ pair_of (col u k)) → pairs_of t ≡ pairs_of u
same_pairs t u e h =
    ext_get_or no_pair (pairs_of t) (pairs_of u) (pairs_length t ∙ e ∙ sym (pairs_length u))
    (λ k l. let m : k < count_of u = omega (arith, pairs_length t) in pair_at t k (omega (arith, e)) ∙ h k m ∙ sym (pair_at u k m))

pub pair_same : (t u : ColumnTable) → pairs_of t ≡ pairs_of u → count_of t ≡ count_of u → (k : ℕ) → k < count_of u → pair_of (col t k) ≡ pair_of (col u k)
pair_same t u e n k l = sym (pair_at t k (omega (arith, n))) ∙ ap (λ (ps : List Column). get_or ps k no_pair) e ∙ pair_at u k l

-- a field as a size wants it
abbrev pub FieldOf : Option ℕ → Field → Type 0
FieldOf size null = Unit {0}
FieldOf size (held lost bs) = HeldAt size lost bs

field_by_size : (f : Field) (code : ℕ) → FieldAt code f → FieldOf (size_of code) f
field_by_size null code h = tt
field_by_size (held lost bs) code h = h.0

-- each code is carried
carried_at : (carries : ℕ → ℕ → Bool) (i : ℕ) (ps : List Column) → all_carried carries i ps ≡ true → (k : ℕ) → k < length ps → carries (i + k) (get_or ps k no_pair).code ≡ true
carried_at carries i [] e k l = absurd (omega arith)
carried_at carries i (p ∷ ps) e zero l =
    let z : i ≡ i + 0 = omega arith in
    subst (λ (n : ℕ). carries n p.code ≡ true) z (and_parts (carries i p.code) (all_carried carries (suc i) ps) e).0
carried_at carries i (p ∷ ps) e (suc k) l =
    let z : suc i + k ≡ i + suc k = omega arith in
    subst (λ (n : ℕ). carries n (get_or ps k no_pair).code ≡ true) z (carried_at carries (suc i) ps (and_parts (carries i p.code) (all_carried carries (suc i) ps) e).1 k (omega arith))

module _ (m : Meaning) (r : Row) (t : ColumnTable) (h : Current m r t) (k : ℕ) (l : k < count_of t) where
  -- so the row's field is as that code wants it
  field_fits : FieldAt (col t k).code (column_field r t k)
  field_fits =
      let c = carried_at m.carries 0 (pairs_of t) h.carried k (omega (arith, pairs_length t)) in
      let z : 0 + k ≡ k = omega arith in
      let d : m.carries k (get_or (pairs_of t) k no_pair).code ≡ true = subst (λ (n : ℕ). m.carries n (get_or (pairs_of t) k no_pair).code ≡ true) z c in
      h.fits k (col t k).code _ (omega (arith, h.as_many)) (sym (ap (λ (p : Column). m.carries k p.code) (pair_at t k l)) ∙ d)

  pub field_known : FieldOf (size_of (col t k).code) (column_field r t k)
  field_known = field_by_size (column_field r t k) (col t k).code field_fits

  -- and the host has a bind record for the column
  pub bound_at : record_of m k ≡ Some (bind_of (col t k))
  bound_at =
      ap (λ (o : Option (List BindRecord)). elim o [ Some bs ↦ cond (ltb k (length bs)) (Some (get_or bs k no_bind)) None | None ↦ None ]) h.places
      ∙ ap (λ (b : Bool). cond b (Some (get_or (binds t) k no_bind)) None) (lt-ltb k (length (binds t)) (omega (arith, binds_length t)))
      ∙ ap Some (binds_at t k l)

-- the bytes of a field, as a column's record counts them
pub held_bytes : (size : Option ℕ) (lost : Bool) (bs : List ℕ) (told : ℕ) → HeldAt size lost bs → told ≡ length bs → bytes_by size told ≡ length bs
held_bytes (Some size) lost bs told h e = sym h
held_bytes None lost bs told h e = e

-- a field that fits and lost no figure is not truncated
pub not_truncated : (lost : Bool) (bs : List ℕ) (n : ℕ) → lost ≡ false → length bs ≤ n → truncates (held lost bs) n ≡ false
not_truncated lost bs n e l = ap (λ (b : Bool). ltb n (length bs) || b) e ∙ ap (λ (b : Bool). b || false) (le-ltb n (length bs) l)

-- so its report says the same at another capacity that it fits
pub reported_at : (f : Field) (size : Option ℕ) (n n' : ℕ) (report : Report) → FieldOf size f → NotLost f → (report.is_null ≡ false → bytes_by size report.length ≤ n) → (report.is_null ≡ false → bytes_by size report.length ≤ n')
    → Reported f n report → Reported f n' report
reported_at null size n n' report a q h h' w = w
reported_at (held lost bs) size n n' report a q h h' w =
    let b = held_bytes size lost bs report.length a w.1 in
    (w.0, w.1, w.2 ∙ not_truncated lost bs n q (omega (arith, h w.0, b)) ∙ sym (not_truncated lost bs n' q (omega (arith, h' w.0, b))))
