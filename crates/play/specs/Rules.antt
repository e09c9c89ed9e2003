-- What must be said to what is asked.
use Rattle.std.specs.Prelude.{ℕ, ◌^◌, List, ℤ, Some, None, Ok, Err, Option, Result}
use Rattle.mysql.specs.declared.bind.Column.{Column}
use Rattle.mysql.specs.declared.fault.Fault.{Fault}
use Rattle.mysql.specs.declared.fault.Refusal.TheVariants.{Unopened}
use Rattle.mysql.specs.Faults.{refused}
use Rattle.readings.specs.declared.date_and_time.MysqlTime.{MysqlTime}
use Rattle.readings.specs.Integers as integers
use Rattle.readings.specs.Times as times
use Rattle.host.specs.Meanings.{Row, Event}
use Rattle.rows.specs.declared.answers.Fetch.{Fetch}
use Rattle.rows.specs.declared.answers.Fetch.TheVariants as fetch_answer
use Rattle.rows.specs.Dues as dues
use Rattle.rows.specs.Dues.{TypedBytes}
use Rattle.play.specs.Histories.{Asked, reading, integer, big_integer, time, Said, opened, row, end, null, bytes, number, moment, refused_with}

-- an opening, a fetch, and the readings, in words
abbrev pub opening_said : Result (List Column) Fault → Said
opening_said (Ok pairs) = opened
opening_said (Err f) = refused_with f

abbrev pub fetch_said : Result Fetch Fault → Said
fetch_said (Ok fetch_answer.Row) = row
fetch_said (Ok fetch_answer.End) = end
fetch_said (Err f) = refused_with f

abbrev pub shown_said : Result (Option TypedBytes) Fault → Said
shown_said (Ok None) = null
shown_said (Ok (Some v)) = bytes v.tpe v.bytes
shown_said (Err f) = refused_with f

abbrev pub number_said : Result ℤ Fault → Said
number_said (Ok n) = number n
number_said (Err f) = refused_with f

abbrev pub time_said : Result MysqlTime Fault → Said
time_said (Ok t) = moment t
time_said (Err f) = refused_with f

-- a fetch of a session that is opened with these columns, or not opened
abbrev pub fetch_due : Option (List Column) → (arena : ℕ) → List Event → Result Fetch Fault
fetch_due None arena coming = Err (refused Unopened)
fetch_due (Some pairs) arena coming = dues.fetched pairs arena coming

-- what is shown of a column of such a session, where this row is shown, or none
abbrev pub read_due : Option (List Column) → Option Row → ℕ → Result (Option TypedBytes) Fault
read_due None shown k = Err (refused Unopened)
read_due (Some pairs) shown k = dues.read pairs shown k

-- what must be said to a reading; an opening and a fetch are none
abbrev pub reading_due : Option (List Column) → Option Row → Asked → Option Said
reading_due pairs shown (reading k) = Some (shown_said (read_due pairs shown k))
reading_due pairs shown (integer k) = Some (number_said (dues.read_as (integers.integer (2 ^ 31)) k (read_due pairs shown k)))
reading_due pairs shown (big_integer k) = Some (number_said (dues.read_as (integers.integer (2 ^ 63)) k (read_due pairs shown k)))
reading_due pairs shown (time k) = Some (time_said (dues.read_as times.time k (read_due pairs shown k)))
reading_due pairs shown asked = None
