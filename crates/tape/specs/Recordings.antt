-- What a recording stands for, and how it is gone through.
use Rattle.std.specs.Prelude.{◌≡◌, ℕ, ◌+◌, List, [], ◌∷◌, ◌++◌, drop, Some, None, Ok, Err, Option, Result, ◌⊎◌}
use Rattle.std.specs.List.{flat_map, slice_get}
use Rattle.std.specs.Option.{option_map}
use Rattle.mysql.specs.declared.fault.Fault.{Fault}
use Rattle.mysql.specs.declared.fault.Refusal.TheVariants.{BrokenTape}
use Rattle.mysql.specs.Faults.{refused}
use Rattle.tape.specs.declared.event.Row.{Row}
use Rattle.tape.specs.declared.field.Field.{Field as View}
use Rattle.tape.specs.declared.event.Event.{Event as EventView}
use Rattle.tape.specs.declared.parts.Recording.{Recording}
use Rattle.tape.specs.declared.recording.Columns.{Columns}
use Rattle.tape.specs.declared.recording.Events.{Events}
use Rattle.tape.specs.declared.recording.Fields.{Fields}
use Rattle.mysql.specs.declared.bind.Column.{Column}
use Rattle.host.specs.Fields.{Field, FieldAt}
use Rattle.host.specs.Meanings.{ColumnFits}
use Rattle.tape.specs.Format.{Event, row, Contents, field_bytes, event_bytes, column_bytes, EventOf, ColumnsIn, Holds, RowContents, TapeOf, NoTape}
use Rattle.tape.specs.Steps.{Begins, NoneBegins}
use Rattle.tape.specs.Views.{field_of, RowShows, Next, ColumnsFrom, Refers}

-- a recording's type has its contents
abbrev pub contents : Recording → Contents
contents r = r.held.0

abbrev pub Read : List ℕ → Option Recording → Type 0
Read bytes None = NoTape bytes
Read bytes (Some r) = TapeOf bytes (contents r)

-- bytes are taken exactly where they are a tape, with the tape's contents; any others are refused with 23
abbrev pub Opened : List ℕ → Result Recording Fault → Type 0
Opened bytes (Ok r) = TapeOf bytes (contents r)
Opened bytes (Err f) = (f ≡ refused BrokenTape) × NoTape bytes

-- bytes can be read in one way only
abbrev pub OneReading : List ℕ → Type 0
OneReading bytes = (t u : Contents) → TapeOf bytes t → TapeOf bytes u → t ≡ u

-- what is left to go through
abbrev pub ColumnsLeft : Columns → List Column → Type 0
ColumnsLeft s cs = ColumnsIn s.bytes.now cs

abbrev pub EventsLeft : Events → Contents → Type 0
EventsLeft s t = Holds s.columns.now s.bytes.now s.count t

abbrev pub FieldsLeft : Fields → RowContents → Type 0
FieldsLeft s r = RowShows s.rest r

-- the same without the first
abbrev pub later_events : Contents → Contents
later_events t = record { columns = t.columns; events = drop 1 t.events }

abbrev pub later_fields : RowContents → RowContents
later_fields r = record { columns = drop 1 r.columns; fields = drop 1 r.fields; rest = r.rest }

-- one step of going through them: the first comes, and the others are left; at the end none comes
abbrev pub GivesColumn : Columns → Option Column → Columns → Type 0
GivesColumn before c after = (cs : List Column) → ColumnsLeft before cs → (c ≡ slice_get cs 0) × ColumnsLeft after (drop 1 cs)

abbrev pub GivesEvent : Events → Option EventView → Events → Type 0
GivesEvent before e after = (t : Contents) → EventsLeft before t → Next t.columns t.events e × EventsLeft after (later_events t)

abbrev pub GivesField : Fields → Option View → Fields → Type 0
GivesField before f after = (r : RowContents) → FieldsLeft before r → (option_map field_of f ≡ slice_get r.fields 0) × FieldsLeft after (later_fields r)

-- the same step by the bytes, whatever they hold: a column that begins them comes, and those behind it are left; where none does, none comes,
-- and all stays as it was
abbrev pub StepsColumn : Columns → Option Column → Columns → Type 0
StepsColumn before None after = NoneBegins ColumnFits column_bytes before.bytes.now × (after ≡ before)
StepsColumn before (Some c) after = Begins ColumnFits column_bytes before.bytes.now c after.bytes.now

-- an event comes only where one is counted, and is counted off
abbrev pub StepsEvent : Events → Option EventView → Events → Type 0
StepsEvent before None after =
    ((cs : List Column) → ColumnsFrom before.columns.now cs → (before.count ≡ 0) ⊎ NoneBegins (EventOf cs) event_bytes before.bytes.now) × (after ≡ before)
StepsEvent before (Some v) after =
    (after.columns ≡ before.columns) × (before.count ≡ after.count + 1)
    × ((cs : List Column) → ColumnsFrom before.columns.now cs → (e : Event) × Begins (EventOf cs) event_bytes before.bytes.now e after.bytes.now × Refers v before.columns.now before.bytes.now e)

-- a field comes by the code of the column that begins the bytes of the columns
abbrev pub StepsField : Fields → Option View → Fields → Type 0
StepsField before None after =
    ((c : Column) (later : List ℕ) → Begins ColumnFits column_bytes before.rest.columns.now c later → NoneBegins (FieldAt c.code) field_bytes before.rest.bytes.now) × (after ≡ before)
StepsField before (Some v) after =
    (c : Column) × Begins ColumnFits column_bytes before.rest.columns.now c after.rest.columns.now
    × Begins (FieldAt c.code) field_bytes before.rest.bytes.now (field_of v) after.rest.bytes.now

-- a step, by what is left and by the bytes
pub record Both {S X : Type 0} (Gives Steps : S → Option X → S → Type 0) (before : S) (x : Option X) (after : S) : Type 0 where
  pub gives : Gives before x after
  pub steps : Steps before x after

-- the next event, which is not taken off
abbrev pub Peeks : Events → Option EventView → Type 0
Peeks s e = (t : Contents) → EventsLeft s t → Next t.columns t.events e

-- the row that is next is taken off, by the bytes behind its fields
abbrev pub PassesRow : Events → Row → List ℕ → Events → Type 0
PassesRow before r rest after =
    (cs : List Column) (fs : List Field) (es : List Event) → EventsLeft before (record { columns = cs; events = row fs ∷ es })
    → RowShows r (record { columns = cs; fields = fs; rest = flat_map event_bytes es }) → flat_map field_bytes fs ++ rest ≡ r.bytes.now
    → EventsLeft after (record { columns = cs; events = es })

-- no event is left
abbrev pub Stops : Events → Events → Type 0
Stops before after = (t : Contents) → EventsLeft before t → EventsLeft after (record { columns = t.columns; events = [] })
