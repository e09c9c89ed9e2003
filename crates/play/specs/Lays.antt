-- How far into the arena the places of the columns have reached in a history.
use Rattle.std.specs.Prelude.{ℕ, max, false, cond, List, [], ◌∷◌, drop, Some, None, Option}
use Rattle.std.specs.List.{sum}
use Rattle.mysql.specs.declared.bind.Column.{Column}
use Rattle.host.specs.Meanings.{Row, Event, row, failure, Meaning}
use Rattle.rows.specs.Reach.{first_capacities, grown}
use Rattle.play.specs.Histories.{Entry, granted_by, bound_with, removes, shows_after}

-- the columns as they are bound, the capacities of their places, which follow each other without a gap, and the events to come
pub record Lay : Type 0 where
  pub pairs : List Column
  pub capacities : List ℕ
  pub coming : List Event

abbrev pub lay_end : Lay → ℕ
lay_end l = sum l.capacities

-- the row that is next, if one is
abbrev pub next_row : List Event → Option Row
next_row [] = None
next_row (row r ∷ es) = Some r
next_row (failure n ∷ es) = None

-- the capacities after a row is shown
abbrev pub shown_in : (arena : ℕ) → List Column → Option Row → List ℕ → List ℕ
shown_in n pairs None ns = ns
shown_in n pairs (Some r) ns = grown pairs n r ns

-- after an opening that bound columns, or none
abbrev pub pairs_in : Option (List Column) → List Column → List Column
pairs_in None ps = ps
pairs_in (Some pairs) ps = pairs

abbrev pub opened_in : Option (List Column) → List ℕ → List ℕ
opened_in None ns = ns
opened_in (Some pairs) ns = first_capacities pairs

-- a granted opening lays the places out, and so does a row that is shown
abbrev pub lay_after : (arena : ℕ) → List Column → Lay → Entry → Lay
lay_after n columns l e = let opening = bound_with columns (granted_by e.asked e.said) in record {
  pairs = pairs_in opening l.pairs;
  capacities = cond (shows_after false e.asked e.said) (shown_in n l.pairs (next_row l.coming) l.capacities) (opened_in opening l.capacities);
  coming = drop (removes e.asked e.said) l.coming;
}

-- the furthest end
abbrev pub reach_from : (arena : ℕ) → List Column → Lay → List Entry → ℕ
reach_from n columns l [] = lay_end l
reach_from n columns l (e ∷ es) = max (lay_end l) (reach_from n columns (lay_after n columns l e) es)

-- of a session that is new
abbrev pub reached : Meaning → (arena : ℕ) → List Entry → ℕ
reached m n history = reach_from n m.columns (record { pairs = []; capacities = []; coming = m.coming }) history
