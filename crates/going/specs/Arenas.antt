-- What is left of the arena that a result was opened over.
use Rattle.std.specs.Prelude.{◌≡◌, ℕ, List, length, Ok, Err, Result}
use Rattle.mysql.specs.declared.bind.Column.{Column}
use Rattle.mysql.specs.declared.fault.Fault.{Fault}
use Rattle.host.specs.Meanings.{Event}
use Rattle.layout.specs.Moves.{Beyond}
use Rattle.rows.specs.Standing.{pairs_of}
use Rattle.rows.specs.Reach.{capacities_of, reach_from, reach}
use Rattle.session.specs.declared.state.Session.{Session}
use Rattle.session.specs.Sessions.{table_of}

-- By what the opening must answer: the arena is as it was where it is refused. Else nothing is changed past the furthest end that places had, from the
-- opening on to the last of the events that were fetched. Free: the bytes before that end.
abbrev pub LeavesArena : Result (List Column) Fault → (gone : List Event) → (a a' : List ℕ) → Type 0
LeavesArena (Ok pairs) gone a a' = Beyond (reach pairs (length a) gone) a a'
LeavesArena (Err f) gone a a' = a' ≡ a

-- nothing is changed past the furthest end of the places of an opened session while it fetches these events
abbrev pub LeavesPast : {H : Type 0} → Session H → (gone : List Event) → (a a' : List ℕ) → Type 0
LeavesPast s gone a a' = Beyond (reach_from (pairs_of (table_of s)) (length a) (capacities_of (table_of s)) gone) a a'
