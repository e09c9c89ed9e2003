-- What the code's references into a tape's bytes stand for.
use Rattle.std.specs.Prelude.{◌≡◌, ℕ, List, [], ◌∷◌, ◌++◌, Some, None, Option}
use Rattle.std.specs.List.{flat_map, AllByRecursion}
use Rattle.std.specs.Borrow.{Bor}
use Rattle.tape.specs.declared.field.Field.{Field as View}
use Rattle.tape.specs.declared.field.Field.TheVariants as view
use Rattle.tape.specs.declared.event.Row.{Row}
use Rattle.tape.specs.declared.event.Event.{Event as EventView}
use Rattle.tape.specs.declared.event.Event.TheVariants as view_event
use Rattle.mysql.specs.declared.bind.Column.{Column}
use Rattle.host.specs.Fields.{Field, null, held}
use Rattle.host.specs.Meanings.{ColumnFits}
use Rattle.tape.specs.Format.{Event, row, failure, column_bytes, event_bytes, EventOf, RowContents, RowIn}
use Rattle.tape.specs.Steps.{Begins, NoneBegins}

-- a field, by the bytes that it refers to
abbrev pub field_of : View → Field
field_of view.Null = null
field_of (view.Held bytes lost) = held lost bytes.now

-- a row refers to the bytes of its columns, and to those from its first field on
abbrev pub RowShows : Row → RowContents → Type 0
RowShows r c = RowIn r.columns.now r.bytes.now c

-- an event with these columns, and the bytes behind it
abbrev pub Shows : EventView → List Column → Event → List ℕ → Type 0
Shows (view_event.Row r) cs (row fs) rest = RowShows r (record { columns = cs; fields = fs; rest = rest })
Shows (view_event.Row r) cs (failure m) rest = ⊥
Shows (view_event.Failure n) cs (row fs) rest = ⊥
Shows (view_event.Failure n) cs (failure m) rest = n ≡ m

-- the first of these events, or none
abbrev pub Next : List Column → List Event → Option EventView → Type 0
Next cs [] o = o ≡ None
Next cs (e ∷ es) None = ⊥
Next cs (e ∷ es) (Some v) = Shows v cs e (flat_map event_bytes es)

-- the event that begins bytes is taken; none is, where none begins them
abbrev pub TakesEvent : List Column → List ℕ → Option (EventView × Bor (List ℕ)) → Type 0
TakesEvent cs bytes None = NoneBegins (EventOf cs) event_bytes bytes
TakesEvent cs bytes (Some p) = (e : Event) × Begins (EventOf cs) event_bytes bytes e p.1.now × Shows p.0 cs e p.1.now

-- the columns that begin bytes, as far as they go; what is behind the last one begins with none
pub record ColumnsFrom (bytes : List ℕ) (cs : List Column) : Type 0 where
  pub behind : List ℕ
  pub bytes_are : flat_map column_bytes cs ++ behind ≡ bytes
  pub fit : AllByRecursion ColumnFits cs
  pub over : NoneBegins ColumnFits column_bytes behind

-- a row refers to these bytes of columns, and to the bytes after the first one
abbrev pub Refers : EventView → (columns bytes : List ℕ) → Event → Type 0
Refers (view_event.Row r) columns bytes (row fs) = (r.columns.now ≡ columns) × (0 ∷ r.bytes.now ≡ bytes)
Refers (view_event.Row r) columns bytes (failure m) = ⊥
Refers (view_event.Failure n) columns bytes (row fs) = ⊥
Refers (view_event.Failure n) columns bytes (failure m) = n ≡ m

-- an event is taken by the columns that begin any bytes of columns; none is, where none begins the bytes
abbrev pub TakesEventOf : (columns : List ℕ) → List Column → List ℕ → Option (EventView × Bor (List ℕ)) → Type 0
TakesEventOf columns cs bytes None = NoneBegins (EventOf cs) event_bytes bytes
TakesEventOf columns cs bytes (Some p) = (e : Event) × Begins (EventOf cs) event_bytes bytes e p.1.now × Refers p.0 columns bytes e
