-- The rows of a tray: one column of text, made by rule. Row k, counted from 1, is null where k leaves 3 when divided by 5; any other has
-- (37 times k) modulo 200 bytes, and byte j, counted from 0, is (k + j) modulo 256.
use Rattle.std.specs.Prelude.{ℕ, zero, suc, ◌+◌, ◌*◌, ◌%◌, false, cond, List, [], ◌∷◌, map, ◌==◌}
use Rattle.std.specs.List.{range_with_len}
use Rattle.mysql.specs.declared.bind.Column.{Column}
use Rattle.host.specs.Fields.{Field, null, held}
use Rattle.host.specs.Meanings.{Row, Event, row}

abbrev pub size_of_row : ℕ → ℕ
size_of_row k = (37 * k) % 200

abbrev pub bytes_of_row : ℕ → List ℕ
bytes_of_row k = map (λ j. (k + j) % 256) (range_with_len 0 (size_of_row k))

abbrev pub field_of_row : ℕ → Field
field_of_row k = cond (k % 5 == 3) null (held false (bytes_of_row k))

-- the one column is the same at its code, whatever the sign
abbrev pub tray_row : ℕ → Row
tray_row k column code unsigned = field_of_row k

-- so many rows, from row k on
abbrev pub rows_from : ℕ → ℕ → List Event
rows_from k zero = []
rows_from k (suc n) = row (tray_row k) ∷ rows_from (suc k) n

abbrev pub tray_columns : List Column
tray_columns = record { code = 253; flags = 0 } ∷ []
