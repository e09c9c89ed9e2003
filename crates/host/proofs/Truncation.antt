-- Where nothing of a row is truncated, every field of it is whole.
-- Assumes nothing.
use Rattle.std.proofs.Common.{◌≡◌, ℕ, zero, suc, ◌+◌, ◌<◌, ◌≤◌, false, ltb, List, [], ◌∷◌, length, get_or, zero-add, subst, arith}
use Rattle.std.proofs.lemmas.Bool.{or_parts, ltb-false}
use Rattle.host.specs.declared.records.BindRecord.{BindRecord}
use Rattle.host.specs.declared.records.Report.{Report}
use Rattle.host.specs.Fields.{Field, null, held}
use Rattle.host.specs.Meanings.{Row}
use Rattle.host.specs.Calls.{no_bind, no_report, field_of, truncates, Reported, Stands, any_truncates}
use Rattle.host.specs.Wholes.{Whole}

none_truncated : (r : Row) (i : ℕ) (bs : List BindRecord) → any_truncates r i bs ≡ false → (k : ℕ) → k < length bs → truncates (field_of r (i + k) (get_or bs k no_bind)) (get_or bs k no_bind).capacity ≡ false
none_truncated r i [] e k l = absurd (omega arith)
none_truncated r i (b ∷ bs) e zero l =
    let p = or_parts (truncates (field_of r i b) b.capacity) (any_truncates r (suc i) bs) e in
    let z : i ≡ i + 0 = omega arith in
    subst (λ (n : ℕ). truncates (field_of r n b) b.capacity ≡ false) z p.0
none_truncated r i (b ∷ bs) e (suc k) l =
    let p = or_parts (truncates (field_of r i b) b.capacity) (any_truncates r (suc i) bs) e in
    let z : suc i + k ≡ i + suc k = omega arith in
    subst (λ (n : ℕ). truncates (field_of r n (get_or bs k no_bind)) (get_or bs k no_bind).capacity ≡ false) z (none_truncated r (suc i) bs p.1 k (omega arith))

field_whole : (f : Field) (b : BindRecord) (r : Report) (a : List ℕ) → truncates f b.capacity ≡ false → Reported f b.capacity r → Stands f b.start b.capacity a → Whole f b r a
field_whole null b r a t p s = p.0
field_whole (held lost bs) b r a t p s =
    let q = or_parts (ltb b.capacity (length bs)) lost t in
    let l : length bs ≤ b.capacity = ltb-false b.capacity (length bs) q.0 in
    (p.0, p.1, q.1, λ j h. s j (omega arith))

-- a row of which nothing is truncated
pub whole_row : (r : Row) (bs : List BindRecord) (rs : List Report) (a : List ℕ) → any_truncates r 0 bs ≡ false
    → ((k : ℕ) → k < length bs → Reported (field_of r k (get_or bs k no_bind)) (get_or bs k no_bind).capacity (get_or rs k no_report))
    → ((k : ℕ) → k < length bs → Stands (field_of r k (get_or bs k no_bind)) (get_or bs k no_bind).start (get_or bs k no_bind).capacity a)
    → (k : ℕ) → k < length bs → Whole (field_of r k (get_or bs k no_bind)) (get_or bs k no_bind) (get_or rs k no_report) a
whole_row r bs rs a e told there k l =
    field_whole (field_of r k (get_or bs k no_bind)) (get_or bs k no_bind) (get_or rs k no_report) a (rw (zero-add k) at (none_truncated r 0 bs e k l)) (told k l) (there k l)
