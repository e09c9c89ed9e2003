-- The calls that are played, and their answers, as a history.
use Rattle.std.specs.Prelude.{ℕ, List, Ok, Err, Result}
use Rattle.mysql.specs.declared.fault.Fault.{Fault}
use Rattle.rows.specs.declared.answers.Fetch.{Fetch}
use Rattle.rows.specs.declared.answers.Fetch.TheVariants as fetch_answer
use Rattle.play.specs.declared.calls.Call.{Call}
use Rattle.play.specs.declared.calls.Call.TheVariants as call
use Rattle.play.specs.declared.calls.Answer.{Answer}
use Rattle.play.specs.declared.calls.Answer.TheVariants as answer
use Rattle.play.specs.Histories.{Asked, opening, fetch, reading, integer, big_integer, time, Said, opened, row, end, null, bytes, number, moment, refused_with}

abbrev pub asked_of : Call → Asked
asked_of (call.Open wanted) = opening wanted.now
asked_of call.Fetch = fetch
asked_of (call.Read k) = reading k
asked_of (call.ReadInteger k) = integer k
asked_of (call.ReadBigInt k) = big_integer k
asked_of (call.ReadTime k) = time k

module _ {B : Type 0} (bytes_in : B → List ℕ) where
  -- what an answer says, by the bytes that are lent or held in it
  abbrev pub said_by : Answer B → Said
  said_by answer.Opened = opened
  said_by answer.Row = row
  said_by answer.End = end
  said_by answer.Null = null
  said_by (answer.Bytes t b) = bytes t (bytes_in b)
  said_by (answer.Integer n) = number n
  said_by (answer.BigInt n) = number n
  said_by (answer.Time t) = moment t
  said_by (answer.Refused f) = refused_with f

-- what a fetch came to
abbrev pub fetch_answered : {B : Type 0} → Result Fetch Fault → Answer B
fetch_answered (Ok fetch_answer.Row) = answer.Row
fetch_answered (Ok fetch_answer.End) = answer.End
fetch_answered (Err f) = answer.Refused f

-- what a reading as a type came to
abbrev pub held_in : {B T : Type 0} → (T → Answer B) → Result T Fault → Answer B
held_in holds (Ok x) = holds x
held_in holds (Err f) = answer.Refused f
