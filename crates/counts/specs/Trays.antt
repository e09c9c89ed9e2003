-- What a tray means that was just made, which words say how many rows one has, and the count of such a tray.
use Rattle.std.specs.Prelude.{◌≡◌, ℕ, ◌^◌, ◌<◌, List, Some, None, Option}
use Rattle.std.specs.Str.Parse.{IsNumeral, digits_value, without_leading_plus}
use Rattle.host.specs.Meanings.{Meaning}
use Rattle.tally.specs.Tallies.{counted}
use Rattle.counts.specs.declared.TrayCount.{TrayCount}
use Rattle.tray.specs.Rows.{rows_from, tray_columns}
use Rattle.tray.specs.Trays.{tray_carries}

-- n rows to come, nothing bound, no current row, no error
abbrev pub new_tray : ℕ → Meaning
new_tray n = record { columns = tray_columns; carries = tray_carries; coming = rows_from 1 n; current = None; bound = None; error = 0 }

-- a decimal number of 16 bits, with a plus before it or none
abbrev pub rows_of : List ℕ → ℕ
rows_of text = digits_value 10 (without_leading_plus text)

abbrev pub IsRows : List ℕ → Type 0
IsRows text = IsNumeral 10 (without_leading_plus text) × (rows_of text < 2 ^ 16)

-- the count of the tray of as many rows as a word says; none where it says no such number
pub record CountOf (text : List ℕ) (c : TrayCount) : Type 0 where
  pub says : IsRows text
  pub rows : c.rows ≡ rows_of text
  pub totals : c.totals ≡ counted (new_tray (rows_of text))

abbrev pub CountDue : List ℕ → Option TrayCount → Type 0
CountDue text None = IsRows text → ⊥
CountDue text (Some c) = CountOf text c
