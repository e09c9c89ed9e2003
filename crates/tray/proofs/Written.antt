-- What a tray writes of a row.
-- Assumes nothing.
use Rattle.std.proofs.Common.{◌≡◌, ℕ, ◌+◌, ◌-◌, ◌%◌, ◌<◌, min, Bool, false, cond, ltb, List, length, get_or, drop, sym, ap, ◌∙◌, subst, arith}
use Rattle.std.proofs.lemmas.List.{get_or-drop, length-drop}
use Rattle.std.proofs.lemmas.List.FromFn.{length-map-range_with_len, get_or-map-range_with_len}
use Rattle.host.specs.declared.records.Report.{Report}
use Rattle.host.specs.Fields.{Field, null, held}
use Rattle.host.specs.Calls.{from_offset, PartReported, Stands}
use Rattle.std.proofs.Math.Bool.{or-false}
use Rattle.tray.specs.Rows.{size_of_row, bytes_of_row}

pub length_row : (k : ℕ) → length (bytes_of_row k) ≡ size_of_row k
length_row k = length-map-range_with_len (λ j. (k + j) % 256) 0 (size_of_row k)

-- byte j after an offset
pub byte_of : (k offset j : ℕ) → offset + j < size_of_row k → get_or (drop offset (bytes_of_row k)) j 0 ≡ (k + (offset + j)) % 256
byte_of k offset j l = get_or-drop offset (bytes_of_row k) j 0 ∙ get_or-map-range_with_len (λ i. (k + i) % 256) 0 (size_of_row k) (offset + j) (offset + j) 0 l (omega arith)

length_rest : (k offset : ℕ) → length (drop offset (bytes_of_row k)) ≡ size_of_row k - offset
length_rest k offset = length-drop offset (bytes_of_row k) ∙ ap (λ n. n - offset) (length_row k)

-- the report and the bytes of a field that is not null
module _ (k offset n size : ℕ) (r : Report) (part : List ℕ) (hs : size ≡ size_of_row k) where
  abbrev shown : Field
  shown = held false (bytes_of_row k)

  pub reported : r.is_null ≡ false → r.length ≡ size → r.is_truncated ≡ ltb n (size - offset) → (b : Bool) → b ≡ false → PartReported (cond b null shown) offset n r
  reported p q t b e =
      subst (λ (x : Bool). PartReported (cond x null shown) offset n r) (sym e) (
        p,
        q ∙ hs ∙ sym (length_row k),
        t ∙ ap (λ m. ltb n (m - offset)) hs ∙ ap (ltb n) (sym (length_rest k offset)) ∙ sym (or-false (ltb n (length (drop offset (bytes_of_row k))))),
      )

  pub stands : ((j : ℕ) → j < min (size - offset) n → get_or part j 0 ≡ (k + (offset + j)) % 256) → (b : Bool) → b ≡ false → Stands (from_offset offset (cond b null shown)) 0 n part
  stands w b e =
      subst (λ (x : Bool). Stands (from_offset offset (cond x null shown)) 0 n part) (sym e)
      (λ j l.
      let d = length_rest k offset in
      let z : 0 + j ≡ j = omega arith in
      ap (λ i. get_or part i 0) z ∙ w j (omega arith) ∙ sym (byte_of k offset j (omega arith)))
