-- A part of a column, fetched into a part of the arena.
use borrow.Rule.Slice.PartMut.{put_mid}
use Rattle.std.proofs.Common.{◌≡◌, ℕ, ◌+◌, ◌-◌, ◌<◌, ◌≤◌, List, length, get_or, Some, Option, sym, ap, ◌∙◌, subst, arith}
use Rattle.host.specs.declared.records.BindRecord.{BindRecord}
use Rattle.host.specs.declared.records.Report.{Report}
use Rattle.host.specs.Fields.{Field, null, held}
use Rattle.host.specs.Meanings.{Row, Meaning}
use Rattle.host.proofs.Placed.{put_inside}
use Rattle.host.specs.Calls.{field_of, from_offset, record_of, part_error, PartReported, Stands, PartCame, PartRefused}
use Rattle.rows.specs.Settling.{PartGot}

-- what stands at a part's front stands in the arena from the part's start on
stands_at : (f : Field) (from n : ℕ) (part a : List ℕ) → ((j : ℕ) → j < n → get_or a (from + j) 0 ≡ get_or part j 0) → Stands f 0 n part → Stands f from n a
stands_at null from n part a h s = tt
stands_at (held lost bs) from n part a h s = λ j l. h j (omega arith) ∙ (let z : j ≡ 0 + j = omega arith in ap (λ i. get_or part i 0) z) ∙ s j l

module _ (m m' : Meaning) (r : Row) (b : BindRecord) (column offset : ℕ) (before report : Report) (part part' : List ℕ)
    (current : m.current ≡ Some r) (at : record_of m column ≡ Some b) where
  pub part_got : PartCame m m' column offset before report part part' → PartGot m (field_of r column b) offset report m' 0 (length part') part'
  part_got w =
      let same_row : w.fields ≡ r = (let e : Some w.fields ≡ Some r = sym w.current ∙ current in cc) in
      let same_place : w.at ≡ b = (let e : Some w.at ≡ Some b = sym w.bound ∙ at in cc) in
      let same : field_of w.fields column w.at ≡ field_of r column b = ap (λ (x : Row). field_of x column w.at) same_row ∙ ap (field_of r column) same_place in
      let n : length part ≡ length part' - 0 = omega (arith, w.as_long) in
      record {
        host = w.after;
        reported = subst (λ (f : Field). PartReported f offset (length part' - 0) report) same (subst (λ (k : ℕ). PartReported (field_of w.fields column w.at) offset k report) n w.reported);
        stands = subst (λ (f : Field). Stands (from_offset offset f) 0 (length part' - 0) part') same (subst (λ (k : ℕ). Stands (from_offset offset (field_of w.fields column w.at)) 0 k part') n w.stands);
      }

  pub part_never_refused : {A : Type 0} → PartRefused m m' column before report part part' → A
  part_never_refused w = absurd (w.error (ap (λ (o : Option Row). part_error o (record_of m column)) current ∙ ap (part_error (Some r)) at))

-- the same in the arena, which has the part from a byte on
pub part_placed : (m m' : Meaning) (f : Field) (offset : ℕ) (report : Report) (from to : ℕ) (xs ys : List ℕ) → from ≤ to → to ≤ length xs → length ys ≡ to - from
    → PartGot m f offset report m' 0 (length ys) ys → PartGot m f offset report m' from to (put_mid from (to - from) xs ys)
part_placed m m' f offset report from to xs ys forward within long w =
    let n : length ys - 0 ≡ to - from = omega (arith, long) in
    record {
      host = w.host;
      reported = subst (λ (k : ℕ). PartReported f offset k report) n w.reported;
      stands = stands_at (from_offset offset f) from (to - from) ys (put_mid from (to - from) xs ys) (put_inside from (to - from) xs ys (omega arith) long)
          (subst (λ (k : ℕ). Stands (from_offset offset f) 0 k ys) n w.stands);
    }
