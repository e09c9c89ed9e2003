-- What is said of a result that is gone through from its opening to its end, in the order in which it is said.
use Rattle.std.specs.Prelude.{ℕ, zero, suc, List, [], ◌∷◌, ◌++◌, length, Some, Ok, Err, Option, Result, false}
use Rattle.mysql.specs.declared.backend.MysqlType.{MysqlType}
use Rattle.mysql.specs.declared.bind.Column.{Column}
use Rattle.mysql.specs.declared.fault.Fault.{Fault}
use Rattle.host.specs.Meanings.{Row, Event, row, failure, Meaning}
use Rattle.rows.specs.declared.answers.Fetch.{Fetch}
use Rattle.rows.specs.Dues.{TypedBytes, opening, fetched, read}

pub data Said : Type 0 where
  -- the opening was refused
  unopened : Fault → Said
  -- a row is shown
  a_row : Said
  -- what was read of the row's next column
  a_column : Result (Option TypedBytes) Fault → Said
  -- a fetch was refused
  refused : Fault → Said
  -- no event is left
  the_end : Said

-- the first n columns of the row that is shown
abbrev pub columns_said : List Column → Option Row → ℕ → List Said
columns_said pairs shown zero = []
columns_said pairs shown (suc n) = columns_said pairs shown n ++ a_column (read pairs shown n) ∷ []

-- a shown row, with all its columns
abbrev pub row_said : List Column → Option Row → List Said
row_said pairs shown = a_row ∷ columns_said pairs shown (length pairs)

-- an event, by what its fetch answers: a shown row, or a refusal
abbrev pub event_said : List Column → Event → Result Fetch Fault → List Said
event_said pairs (row r) (Ok x) = row_said pairs (Some r)
event_said pairs (failure n) (Ok x) = []
event_said pairs e (Err f) = refused f ∷ []

-- all events to come, over an arena of this length, and then the end
abbrev pub events_said : List Column → (arena : ℕ) → List Event → List Said
events_said pairs arena [] = the_end ∷ []
events_said pairs arena (e ∷ es) = event_said pairs e (fetched pairs arena (e ∷ es)) ++ events_said pairs arena es

-- by what the opening answers
abbrev pub opened_said : Result (List Column) Fault → (arena : ℕ) → List Event → List Said
opened_said (Ok pairs) arena coming = events_said pairs arena coming
opened_said (Err f) arena coming = unopened f ∷ []

-- all that is said of what a host holds, where it is opened with these wanted types over an arena of this length
abbrev pub walk_said : Meaning → List (Option MysqlType) → (arena : ℕ) → List Said
walk_said m wanted arena = opened_said (opening false arena m.carries wanted m.columns) arena m.coming
