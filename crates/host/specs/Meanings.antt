-- What a host is: a client library that holds one result. Its meaning has the columns, the codes that each column can be asked for
-- at, the events to come, the current row or none, the bind list or none, and the error number.
use Rattle.std.specs.Prelude.{◌≡◌, ℕ, ◌^◌, ◌<◌, ◌≤◌, Bool, true, List, length, Some, None, Option}
use Rattle.std.specs.List.{AllByRecursion}
use Rattle.mysql.specs.declared.bind.Column.{Column}
use Rattle.host.specs.declared.records.BindRecord.{BindRecord}
use Rattle.host.specs.Fields.{Field, FieldAt}

-- a row gives each column a field for each code and sign (true: without sign) that it can be asked for at
abbrev pub Row : Type 0
Row = (column code : ℕ) → Bool → Field

-- what comes next: a row, or a failure with its number
pub data Event : Type 0 where
  row : Row → Event
  failure : ℕ → Event

pub record Meaning : Type 0 where
  pub columns : List Column
  -- whether a column can be asked for at a code
  pub carries : (column code : ℕ) → Bool
  pub coming : List Event
  pub current : Option Row
  pub bound : Option (List BindRecord)
  pub error : ℕ

-- a column past the last
abbrev pub no_column : Column
no_column = record { code = 6; flags = 0 }

-- what every host's meaning keeps to
abbrev pub ColumnFits : Column → Type 0
ColumnFits c = (c.code < 256) × (c.flags < 2 ^ 32)

abbrev pub RowFits : Meaning → Row → Type 0
RowFits m r = (column code : ℕ) (unsigned : Bool) → column < length m.columns → m.carries column code ≡ true → FieldAt code (r column code unsigned)

abbrev pub EventFits : Meaning → Event → Type 0
EventFits m (row r) = RowFits m r
EventFits m (failure n) = (1 ≤ n) × (n ≤ 65535)

abbrev pub CurrentFits : Meaning → Option Row → Type 0
CurrentFits m None = Unit {0}
CurrentFits m (Some r) = RowFits m r

pub record Formed (m : Meaning) : Type 0 where
  pub few : length m.columns ≤ 64
  pub columns_fit : AllByRecursion ColumnFits m.columns
  pub coming_fit : AllByRecursion (EventFits m) m.coming
  pub current_fit : CurrentFits m m.current
  pub error_fits : m.error < 65536
