-- An ideal session without buffers: the columns and what they carry, the arena's length, the events to come, the columns as bound or none,
-- and the row that is shown or none. No place, no capacity, no earlier row. It is a means: the law stands above it.
use Rattle.std.specs.Prelude.{◌≡◌, ℕ, Bool, List, [], ◌∷◌, is_some, Some, None, Ok, Err, Option, Result}
use Rattle.mysql.specs.declared.bind.Column.{Column}
use Rattle.mysql.specs.declared.fault.Fault.{Fault}
use Rattle.host.specs.Meanings.{Row, Event, Meaning}
use Rattle.host.specs.Meanings as event
use Rattle.rows.specs.declared.answers.Fetch.{Fetch}
use Rattle.rows.specs.Dues as dues
use Rattle.play.specs.Histories.{Asked, opening, fetch, Said, end, Entry}
use Rattle.play.specs.declared.calls.Call.{Call}
use Rattle.play.specs.Calls.{asked_of}
use Rattle.play.specs.Rules.{opening_said, fetch_said, fetch_due, reading_due}

pub record State : Type 0 where
  pub columns : List Column
  pub carries : (column code : ℕ) → Bool
  pub arena : ℕ
  pub coming : List Event
  pub bound : Option (List Column)
  pub shown : Option Row

-- a new session over a host that means m
abbrev pub start : Meaning → ℕ → State
start m n = record { columns = m.columns; carries = m.carries; arena = n; coming = m.coming; bound = None; shown = None }

abbrev pub opening_at : State → Result (List Column) Fault → State
opening_at s (Ok pairs) = record { columns = s.columns; carries = s.carries; arena = s.arena; coming = s.coming; bound = Some pairs; shown = None }
opening_at s (Err f) = s

abbrev pub rest_of : List Event → List Event
rest_of [] = []
rest_of (e ∷ es) = es

-- the row that a fetch shows
abbrev pub shown_if : Result Fetch Fault → List Event → Option Row
shown_if (Ok x) [] = None
shown_if (Ok x) (event.row r ∷ es) = Some r
shown_if (Ok x) (event.failure n ∷ es) = None
shown_if (Err f) coming = None

abbrev pub fetch_at : State → Option (List Column) → State
fetch_at s None = s
fetch_at s (Some pairs) = record {
  columns = s.columns;
  carries = s.carries;
  arena = s.arena;
  coming = rest_of s.coming;
  bound = s.bound;
  shown = shown_if (dues.fetched pairs s.arena s.coming) s.coming;
}

abbrev pub said_or : Option Said → Said → Said
said_or (Some x) y = x
said_or None y = y

-- what it says, and what it is after
abbrev pub answer : State → Asked → Said
answer s (opening wanted) = opening_said (dues.opening (is_some s.bound) s.arena s.carries wanted s.columns)
answer s fetch = fetch_said (fetch_due s.bound s.arena s.coming)
answer s asked = said_or (reading_due s.bound s.shown asked) end

abbrev pub after : State → Asked → State
after s (opening wanted) = opening_at s (dues.opening (is_some s.bound) s.arena s.carries wanted s.columns)
after s fetch = fetch_at s s.bound
after s asked = s

-- a history in which everything is said as this session says it
abbrev pub Ideal : State → List Entry → Type 0
Ideal s [] = Unit {0}
Ideal s (e ∷ es) = (e.said ≡ answer s e.asked) × Ideal (after s e.asked) es

-- what it says to calls, one by one
abbrev pub told : State → List Call → List Entry
told s [] = []
told s (c ∷ cs) = record { asked = asked_of c; said = answer s (asked_of c) } ∷ told (after s (asked_of c)) cs
