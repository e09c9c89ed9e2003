-- A session that goes through a result, and what each fetch leaves.
use Rattle.std.specs.Prelude.{◌≡◌, ℕ, ◌≤◌, true, List, [], ◌∷◌, length, Some, None, Ok, Err, Result, slice_index}
use Rattle.mysql.specs.declared.bind.Column.{Column}
use Rattle.mysql.specs.declared.fault.Fault.{Fault}
use Rattle.mysql.specs.Faults.{host_failed, host_error_of}
use Rattle.host.specs.Meanings.{Row, Event, row, failure, Meaning}
use Rattle.layout.specs.Tables.{end}
use Rattle.rows.specs.declared.answers.Fetch.{Fetch}
use Rattle.rows.specs.declared.answers.Fetch.TheVariants as fetch
use Rattle.rows.specs.Dues.{fetched}
use Rattle.rows.specs.Standing.{pairs_of}
use Rattle.rows.specs.Reach.{capacities_of, capacities_after}
use Rattle.session.specs.declared.state.Session.{Session}
use Rattle.session.specs.Sessions.{table_of, shown_row, passes, IsSound, HoldsRow}

-- a host's columns, and the codes that they carry, are as they were
pub record Kept (m m' : Meaning) : Type 0 where
  pub columns : m'.columns ≡ m.columns
  pub carries : m'.carries ≡ m.carries

-- whose fault it is: that of a row that is refused has no host's error; a failure's has its number
abbrev pub FaultOf : Event → Fault → Type 0
FaultOf (row r) f = host_error_of f ≡ None
FaultOf (failure n) f = f ≡ host_failed n

module _ {H : Type 0} (means : H → Meaning) where
  -- A session that is opened over this arena: the two checks of a fetch pass, it agrees with its host, and a row that it shows stands whole in the
  -- arena.
  pub record Ready (s : Session H) (a : List ℕ) : Type 0 where
    pub ready : passes s a ≡ true
    pub sound : IsSound means s
    pub holds : HoldsRow means s a

  -- It goes through the result of a host that meant m: it is ready, bound to these columns over an arena of this length, and m's columns and codes
  -- are kept. The events to come are those that its host now has.
  pub record Going (m : Meaning) (pairs : List Column) (arena : ℕ) (s : Session H) (a : List ℕ) : Type 0 where
    pub now : Ready s a
    pub bound : pairs_of (table_of s) ≡ pairs
    pub long : length a ≡ arena
    pub kept : Kept m (means s.host)

  -- a row was next, and is shown
  pub record RowShown (pairs : List Column) (arena : ℕ) (s s' : Session H) : Type 0 where
    pub is : Row
    pub next : (means s.host).coming ≡ row is ∷ (means s'.host).coming
    pub answer : fetched pairs arena (row is ∷ []) ≡ Ok fetch.Row
    pub shown : shown_row (means s'.host) s' ≡ Some is
    pub capacities : capacities_of (table_of s') ≡ capacities_after pairs arena (capacities_of (table_of s)) (row is)

  -- no event was left
  pub record AtEnd (s s' : Session H) : Type 0 where
    pub none : (means s.host).coming ≡ []
    pub still : (means s'.host).coming ≡ []
    pub shown : shown_row (means s'.host) s' ≡ None
    pub capacities : capacities_of (table_of s') ≡ capacities_of (table_of s)

  -- a row was next, and is refused; or a failure
  pub record Refused (pairs : List Column) (arena : ℕ) (f : Fault) (s s' : Session H) : Type 0 where
    pub is : Event
    pub next : (means s.host).coming ≡ is ∷ (means s'.host).coming
    pub answer : fetched pairs arena (is ∷ []) ≡ Err f
    pub fault : FaultOf is f
    pub shown : shown_row (means s'.host) s' ≡ None
    pub capacities : capacities_of (table_of s') ≡ capacities_after pairs arena (capacities_of (table_of s)) is

  -- What a fetch answers and leaves: the session goes on, the event that was next is gone, and past the old and the new places the arena is as it was.
  pub record Leaves (m : Meaning) (pairs : List Column) (arena : ℕ) (r : Result Fetch Fault) (s s' : Session H) (a a' : List ℕ) : Type 0 where
    pub answer : r ≡ fetched pairs arena (means s.host).coming
    pub going : Going m pairs arena s' a'
    pub outside : (p : ℕ) → end (table_of s) ≤ p → end (table_of s') ≤ p → slice_index a' p ≡ slice_index a p
    pub row : r ≡ Ok fetch.Row → RowShown pairs arena s s'
    pub end : r ≡ Ok fetch.End → AtEnd s s'
    pub refused : (f : Fault) → r ≡ Err f → Refused pairs arena f s s'
