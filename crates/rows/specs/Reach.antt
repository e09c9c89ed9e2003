-- How far into the arena places reach while events are fetched, by the bound columns, the arena's length and the events.
use Rattle.std.specs.Prelude.{ℕ, suc, max, cond, List, [], ◌∷◌, map, Ok, Err, Result, nat_le}
use Rattle.std.specs.List.{sum}
use Rattle.mysql.specs.declared.bind.Column.{Column}
use Rattle.mysql.specs.declared.fault.Fault.{Fault}
use Rattle.mysql.specs.Types.{size_of}
use Rattle.host.specs.Meanings.{Row, Event, row, failure}
use Rattle.layout.specs.declared.table.ColumnTable.{ColumnTable}
use Rattle.layout.specs.Tables.{items, first_capacity}
use Rattle.rows.specs.declared.answers.Fetch.{Fetch}
use Rattle.rows.specs.Bounds.{field_at, field_need}
use Rattle.rows.specs.Dues.{fetched}
use Rattle.rows.specs.Standing.{widened_to}

-- the capacities of a table's columns, and those of bound columns at an opening
abbrev pub capacities_of : ColumnTable → List ℕ
capacities_of t = map (λ c. c.capacity) (items t)

abbrev pub first_capacities : List Column → List ℕ
first_capacities pairs = map (λ c. first_capacity (size_of c.code)) pairs

-- what a row asks for, of the columns from k on: a truncated column its length, any other what it has
abbrev pub wide : Row → ℕ → List Column → (capacities : List ℕ) → List ℕ
wide r k [] ns = []
wide r k (c ∷ cs) [] = []
wide r k (c ∷ cs) (n ∷ ns) = widened_to (size_of c.code) (field_at r k c) n ∷ wide r (suc k) cs ns

-- and what the need counts
abbrev pub tight : Row → ℕ → List Column → List ℕ
tight r k [] = []
tight r k (c ∷ cs) = field_need (size_of c.code) (field_at r k c) ∷ tight r (suc k) cs

-- the capacities after a row is shown: wide, or tight where the wide ones exceed the arena
abbrev pub grown : List Column → (arena : ℕ) → Row → List ℕ → List ℕ
grown pairs arena r ns = cond (nat_le (sum (wide r 0 pairs ns)) arena) (wide r 0 pairs ns) (tight r 0 pairs)

abbrev pub grown_if : Result Fetch Fault → (grown kept : List ℕ) → List ℕ
grown_if (Ok x) grown kept = grown
grown_if (Err f) grown kept = kept

-- after an event is fetched: a row that is refused and a failure leave them
abbrev pub capacities_after : List Column → (arena : ℕ) → List ℕ → Event → List ℕ
capacities_after pairs arena ns (row r) = grown_if (fetched pairs arena (row r ∷ [])) (grown pairs arena r ns) ns
capacities_after pairs arena ns (failure n) = ns

-- the furthest end of places that have these capacities, and then those that each event leaves
abbrev pub reach_from : List Column → (arena : ℕ) → List ℕ → List Event → ℕ
reach_from pairs arena ns [] = sum ns
reach_from pairs arena ns (e ∷ es) = max (sum ns) (reach_from pairs arena (capacities_after pairs arena ns e) es)

-- from an opening on
abbrev pub reach : List Column → (arena : ℕ) → List Event → ℕ
reach pairs arena events = reach_from pairs arena (first_capacities pairs) events
