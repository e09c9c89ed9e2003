-- A class list: a line for each event of a result. The line depends on that event alone, on the columns as they are bound, and on the arena's length;
-- on no other event.
use Rattle.std.specs.Prelude.{ℕ, ◌^◌, List, [], ◌∷◌, map, ℤ, Some, None, Ok, Err, Option, Result}
use Rattle.mysql.specs.declared.bind.Column.{Column}
use Rattle.mysql.specs.declared.fault.Fault.{Fault}
use Rattle.mysql.specs.Faults.{host_failed}
use Rattle.readings.specs.Integers.{integer}
use Rattle.host.specs.Meanings.{Row, Event}
use Rattle.host.specs.Meanings as event
use Rattle.rows.specs.declared.answers.Fetch.{Fetch}
use Rattle.rows.specs.Dues as dues
use Rattle.rows.specs.Dues.{TypedBytes}

-- what is read of a row: the class and the diameter as numbers of 32 bits, and the outlet's bytes, none where it is null; or what a reading is refused with
pub record ReadRow : Type 0 where
  pub class : Result ℤ Fault
  pub outlet : Result (Option (List ℕ)) Fault
  pub diameter : Result ℤ Fault

-- a row that is shown, a row that is refused, or a failure
pub data Line : Type 0 where
  row : ReadRow → Line
  refused_row : Fault → Line
  failed : Fault → Line

-- the columns of class, outlet and diameter
abbrev pub class_column : ℕ
class_column = 0

abbrev pub outlet_column : ℕ
outlet_column = 1

abbrev pub diameter_column : ℕ
diameter_column = 2

-- the bytes of what is shown, whatever their type
abbrev pub bytes_shown : Result (Option TypedBytes) Fault → Result (Option (List ℕ)) Fault
bytes_shown (Ok None) = Ok None
bytes_shown (Ok (Some v)) = Ok (Some v.bytes)
bytes_shown (Err f) = Err f

-- what must be read where this row is shown, or none is
abbrev pub number_read : List Column → Option Row → ℕ → Result ℤ Fault
number_read pairs shown k = dues.read_as (integer (2 ^ 31)) k (dues.read pairs shown k)

abbrev pub read_of : List Column → Option Row → ReadRow
read_of pairs shown = record {
  class = number_read pairs shown class_column;
  outlet = bytes_shown (dues.read pairs shown outlet_column);
  diameter = number_read pairs shown diameter_column;
}

-- a row is shown and read, or refused
abbrev pub row_line : Result Fetch Fault → ReadRow → Line
row_line (Ok fetched) read = row read
row_line (Err f) read = refused_row f

abbrev pub line_of : List Column → (arena : ℕ) → Event → Line
line_of pairs arena (event.row r) = row_line (dues.fetched pairs arena (event.row r ∷ [])) (read_of pairs (Some r))
line_of pairs arena (event.failure n) = failed (host_failed n)

abbrev pub lines_of : List Column → (arena : ℕ) → List Event → List Line
lines_of pairs arena events = map (line_of pairs arena) events
