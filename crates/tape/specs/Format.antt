-- What a tape is, byte by byte. A tape is the recording of one result: its columns, and then what came of it, one event
-- after the other. Numbers lie lowest byte first. Nothing stands between the parts or after the last event.
use Rattle.std.specs.Prelude.{◌≡◌, ℕ, ◌/◌, ◌%◌, ◌<◌, ◌≤◌, Bool, true, false, List, [], ◌∷◌, ◌++◌, length}
use Rattle.std.specs.List.{flat_map, AllByRecursion}
use Rattle.mysql.specs.declared.bind.Column.{Column}
use Rattle.host.specs.Fields.{Field, null, held, FieldAt}
use Rattle.host.specs.Meanings.{ColumnFits}

-- what came next: a row, or a failure with its number
pub data Event : Type 0 where
  row : List Field → Event
  failure : ℕ → Event

pub record Contents : Type 0 where
  pub columns : List Column
  pub events : List Event

-- a number in two bytes, and in four
abbrev pub two : ℕ → List ℕ
two n = n % 256 ∷ n / 256 ∷ []

abbrev pub four : ℕ → List ℕ
four n = n % 256 ∷ n / 256 % 256 ∷ n / 65536 % 256 ∷ n / 16777216 ∷ []

-- the first byte of a field that is not null: 1, or 2 where a figure was lost
abbrev pub tag : Bool → ℕ
tag false = 1
tag true = 2

-- a null field is the byte 0; any other its tag, its length in four bytes, and its bytes
abbrev pub field_bytes : Field → List ℕ
field_bytes null = 0 ∷ []
field_bytes (held lost bs) = tag lost ∷ (four (length bs) ++ bs)

-- a row is the byte 0 and its fields, one for each column; a failure the byte 1 and its number in two bytes
abbrev pub event_bytes : Event → List ℕ
event_bytes (row fs) = 0 ∷ flat_map field_bytes fs
event_bytes (failure n) = 1 ∷ two n

-- a column is its code in one byte and its flags in four
abbrev pub column_bytes : Column → List ℕ
column_bytes c = c.code ∷ four c.flags

-- a tape is the count of its columns and that of its events, in two bytes each, the columns, and the events
abbrev pub tape_bytes : Contents → List ℕ
tape_bytes t = two (length t.columns) ++ (two (length t.events) ++ (flat_map column_bytes t.columns ++ flat_map event_bytes t.events))

-- a row has one field for each column
abbrev pub RowOf : List Column → List Field → Type 0
RowOf [] [] = Unit {0}
RowOf [] (f ∷ fs) = ⊥
RowOf (c ∷ cs) [] = ⊥
RowOf (c ∷ cs) (f ∷ fs) = FieldAt c.code f × RowOf cs fs

-- a failure has a number from 1 to 65,535
abbrev pub EventOf : List Column → Event → Type 0
EventOf cs (row fs) = RowOf cs fs
EventOf cs (failure n) = (1 ≤ n) × (n ≤ 65535)

-- the columns that bytes hold, and nothing else
pub record ColumnsIn (bytes : List ℕ) (cs : List Column) : Type 0 where
  pub bytes_are : flat_map column_bytes cs ≡ bytes
  pub fit : AllByRecursion ColumnFits cs

-- so many events with these columns
abbrev pub EventsOf : List Column → ℕ → List Event → Type 0
EventsOf cs count es = (length es ≡ count) × AllByRecursion (EventOf cs) es

-- the events that bytes hold, so many and nothing else
pub record EventsIn (cs : List Column) (bytes : List ℕ) (count : ℕ) (es : List Event) : Type 0 where
  pub bytes_are : flat_map event_bytes es ≡ bytes
  pub events_of : EventsOf cs count es

-- the contents of some bytes of columns, and bytes of so many events
pub record Holds (columns events : List ℕ) (count : ℕ) (t : Contents) : Type 0 where
  pub columns_in : ColumnsIn columns t.columns
  pub events_in : EventsIn t.columns events count t.events

-- a row among others: its columns, its fields, and the bytes after these
pub record RowContents : Type 0 where
  pub columns : List Column
  pub fields : List Field
  pub rest : List ℕ

-- bytes of columns, and bytes that begin with the fields of a row
pub record RowIn (columns bytes : List ℕ) (r : RowContents) : Type 0 where
  pub columns_in : ColumnsIn columns r.columns
  pub row_of : RowOf r.columns r.fields
  pub bytes_are : flat_map field_bytes r.fields ++ r.rest ≡ bytes

-- these bytes are a tape with these contents
pub record TapeOf (bytes : List ℕ) (t : Contents) : Type 0 where
  pub bytes_are : tape_bytes t ≡ bytes
  pub narrow : length t.columns ≤ 64
  pub few : length t.events < 65536
  pub columns_fit : AllByRecursion ColumnFits t.columns
  pub events_of : AllByRecursion (EventOf t.columns) t.events

-- these bytes are no tape
abbrev pub NoTape : List ℕ → Type 0
NoTape bytes = (t : Contents) → TapeOf bytes t → ⊥
