-- What a tray means keeps to what every host's meaning keeps to.
-- The proof stands in specs/, since the host's ghost member names it, and such a member may name nothing of proofs/.
use Rattle.std.specs.Prelude.{◌≡◌, ℕ, zero, suc, ◌+◌, ◌%◌, Bool, true, false, cond, List, [], ◌∷◌, map, length, Some, None, Option, ◌==◌, refl}
use Rattle.std.proofs.Common.{sym, subst, arith}
use Rattle.std.specs.List.{AllByRecursion, range_with_len}
use Rattle.std.proofs.lemmas.List.FromFn.{length-map-range_with_len}
use Rattle.std.proofs.lemmas.Bool.{eqb-true, and_parts}
use Rattle.host.specs.Fields.{null, held, Bytes, FieldAt}
use Rattle.host.specs.Meanings.{Formed, RowFits, EventFits, CurrentFits}
use Rattle.tray.specs.declared.tray.Tray.{Tray}
use Rattle.tray.specs.Rows.{size_of_row, bytes_of_row, field_of_row, tray_row, rows_from}
use Rattle.tray.specs.Trays.{row_now, next_of, left_of, means}

are_bytes : (k : ℕ) (js : List ℕ) → Bytes (map (λ j. (k + j) % 256) js)
are_bytes k [] = tt
are_bytes k (j ∷ js) = (omega arith, are_bytes k js)

field_fits : (k : ℕ) (b : Bool) → FieldAt 253 (cond b null (held false (bytes_of_row k)))
field_fits k true = tt
field_fits k false =
    let n : length (bytes_of_row k) ≡ size_of_row k = length-map-range_with_len (λ j. (k + j) % 256) 0 (size_of_row k) in
    ((refl, omega arith), are_bytes k (range_with_len 0 (size_of_row k)))

row_fits : (t : Tray) (k : ℕ) → RowFits (means t) (tray_row k)
row_fits t k column code unsigned l h =
    let e : 253 ≡ code = sym (eqb-true code 253 (and_parts (column == 0) (code == 253) h).1) in
    subst (λ (c : ℕ). FieldAt c (field_of_row k)) e (field_fits k (k % 5 == 3))

rows_fit : (t : Tray) (k n : ℕ) → AllByRecursion (EventFits (means t)) (rows_from k n)
rows_fit t k zero = tt
rows_fit t k (suc n) = (row_fits t k, rows_fit t (suc k) n)

current_fits : (t : Tray) (o : Option ℕ) → CurrentFits (means t) (row_now o)
current_fits t None = tt
current_fits t (Some k) = row_fits t k

pub formed : (t : Tray) → Formed (means t)
formed t = record {
  few = omega arith;
  columns_fit = ((omega arith, omega arith), tt);
  coming_fit = rows_fit t (next_of t) (left_of t);
  current_fit = current_fits t t.current;
  error_fits = omega arith;
}
