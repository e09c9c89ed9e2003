-- What a tray means.
use Rattle.std.specs.Prelude.{◌≡◌, ℕ, ◌+◌, ◌-◌, ◌≤◌, min, Bool, ◌&&◌, List, [], ◌∷◌, Some, None, Option, ◌==◌}
use Rattle.host.specs.declared.records.BindRecord.{BindRecord}
use Rattle.host.specs.Meanings.{Row, Meaning}
use Rattle.host.specs.Calls.{place_end}
use Rattle.tray.specs.declared.tray.Tray.{Tray}
use Rattle.tray.specs.Rows.{tray_row, rows_from, tray_columns}

-- only the column's own code
abbrev pub tray_carries : (column code : ℕ) → Bool
tray_carries column code = column == 0 && code == 253

abbrev pub row_now : Option ℕ → Option Row
row_now None = None
row_now (Some k) = Some (tray_row k)

abbrev pub bound_to : Option BindRecord → Option (List BindRecord)
bound_to None = None
bound_to (Some place) = Some (place ∷ [])

-- how many rows are to come, and the number of the next
abbrev pub left_of : Tray → ℕ
left_of t = t.rows - t.taken

abbrev pub next_of : Tray → ℕ
next_of t = t.taken + 1

abbrev pub means : Tray → Meaning
means t = record {
  columns = tray_columns;
  carries = tray_carries;
  coming = rows_from (next_of t) (left_of t);
  current = row_now t.current;
  bound = bound_to t.place;
  error = min t.error 65535;
}

-- a place that is bound, and lies in an arena of this length; and a report for the one column
pub record Inside (bound : Option BindRecord) (arena reports : ℕ) (place : BindRecord) : Type 0 where
  pub is_bound : bound ≡ Some place
  pub ends : place_end place ≤ arena
  pub one_report : reports ≡ 1

-- a new tray of n rows: all to come, nothing bound, no row, no error
pub record Fresh (n : ℕ) (m : Meaning) : Type 0 where
  pub columns : m.columns ≡ tray_columns
  pub carries : m.carries ≡ tray_carries
  pub coming : m.coming ≡ rows_from 1 n
  pub no_row : m.current ≡ None
  pub not_bound : m.bound ≡ None
  pub no_error : m.error ≡ 0
