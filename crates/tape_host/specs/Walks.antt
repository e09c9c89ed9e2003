-- How far the bytes of a row were gone through, and by which codes.
use Rattle.std.specs.Prelude.{◌≡◌, ℕ, true, List, ◌++◌, length, drop}
use Rattle.std.specs.List.{flat_map}
use Rattle.host.specs.declared.records.BindRecord.{BindRecord}
use Rattle.tape.specs.declared.event.Row.{Row}
use Rattle.tape.specs.Format.{field_bytes, RowContents}
use Rattle.tape.specs.Views.{RowShows}
use Rattle.tape_host.specs.Codes.{own_codes}

-- what the first k fields of a row leave: the bytes of the others, and what is behind the row
abbrev pub Left : RowContents → ℕ → List ℕ → Type 0
Left r k rest = flat_map field_bytes (drop k r.fields) ++ r.rest ≡ rest

-- a row, and a place for each of its columns, at the column's own code
pub record Asked (row : Row) (places : List BindRecord) : Type 0 where
  pub contents : RowContents
  pub shows : RowShows row contents
  pub as_many : length places ≡ length contents.columns
  pub coded : own_codes contents.columns places ≡ true
