-- What a tape means as a host: the columns of a recording, each carrying its own code only, alike at both signs, and its events.
use Rattle.std.specs.Prelude.{◌≡◌, ℕ, min, Bool, true, false, ◌&&◌, List, [], map, length, get_or, take, Some, None, Ok, Err, Option, Result, ◌==◌, nat_lt, slice_index_or}
use Rattle.std.specs.Option.{unwrap_or}
use Rattle.mysql.specs.declared.bind.Column.{Column}
use Rattle.mysql.specs.declared.fault.Fault.{Fault}
use Rattle.mysql.specs.declared.fault.Refusal.TheVariants.{BrokenTape}
use Rattle.mysql.specs.Faults.{refused}
use Rattle.host.specs.declared.records.BindRecord.{BindRecord}
use Rattle.host.specs.Fields.{Field, null}
use Rattle.host.specs.Meanings.{Row, Event, row, failure, Meaning, no_column}
use Rattle.tape.specs.Format as recorded
use Rattle.tape_host.specs.declared.current.Current.{Current}
use Rattle.tape_host.specs.declared.tapes.Tape.{Tape}

-- a column carries its own code
abbrev pub own_code : List Column → (column code : ℕ) → Bool
own_code cs column code = nat_lt column (length cs) && code == (get_or cs column no_column).code

-- a recorded row, at whatever code and sign it is asked for
abbrev pub shown : List Field → Row
shown fs column code unsigned = slice_index_or fs column null

abbrev pub event_shown : recorded.Event → Event
event_shown (recorded.row fs) = row (shown fs)
event_shown (recorded.failure n) = failure n

-- a tape's type has what is left of its contents, and that of a current row the row's columns and fields
unfoldable pub left_of : Tape → recorded.Contents
left_of t = t.left.0

unfoldable pub row_of : Current → recorded.RowContents
row_of c = c.shows.0

abbrev pub columns_of : Tape → List Column
columns_of t = (left_of t).columns

abbrev pub current_of : Option Current → Option Row
current_of None = None
current_of (Some c) = Some (shown (row_of c).fields)

-- records that are bound, or not
abbrev pub bound_if : Bool → List BindRecord → Option (List BindRecord)
bound_if false bs = None
bound_if true bs = Some bs

-- the bind list, a record for each column at the front of the array, and the places of the columns: none where there is no bind list
abbrev pub bound_of : Tape → Option (List BindRecord)
bound_of t = bound_if t.is_bound (take t.width t.records)

abbrev pub places_of : Tape → List BindRecord
places_of t = unwrap_or (bound_of t) []

abbrev pub means : Tape → Meaning
means t = record {
  columns = columns_of t;
  carries = own_code (columns_of t);
  coming = map event_shown (left_of t).events;
  current = current_of t.current;
  bound = bound_of t;
  error = min t.error 65535;
}

-- a new tape: the recording's columns and all its events, nothing bound, no row, no error
pub record Fresh (c : recorded.Contents) (m : Meaning) : Type 0 where
  pub columns : m.columns ≡ c.columns
  pub carries : m.carries ≡ own_code c.columns
  pub coming : m.coming ≡ map event_shown c.events
  pub no_row : m.current ≡ None
  pub not_bound : m.bound ≡ None
  pub no_error : m.error ≡ 0

-- bytes that are a tape, and a host that has just that tape's contents
pub record Holds (bytes : List ℕ) (m : Meaning) : Type 0 where
  pub contents : recorded.Contents
  pub is_tape : recorded.TapeOf bytes contents
  pub fresh : Fresh contents m

-- bytes are taken exactly where they are a tape; any others are refused with 23
abbrev pub Opened : List ℕ → Result Tape Fault → Type 0
Opened bytes (Ok t) = Holds bytes (means t)
Opened bytes (Err f) = (f ≡ refused BrokenTape) × recorded.NoTape bytes
