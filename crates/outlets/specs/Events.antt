-- What becomes of each event of a result that a session was opened over: bound to these columns, with an arena of this length. A row is shown or
-- refused, whatever came before it.
use Rattle.std.specs.Prelude.{◌≡◌, ℕ, ◌-◌, ◌^◌, min, Bool, true, false, List, [], ◌∷◌, Ok, Err, Result}
use Rattle.std.specs.List.{count_by}
use Rattle.mysql.specs.declared.bind.Column.{Column}
use Rattle.mysql.specs.declared.fault.Fault.{Fault}
use Rattle.host.specs.Meanings.{Event, row, failure}
use Rattle.rows.specs.declared.answers.Fetch.{Fetch}
use Rattle.rows.specs.declared.answers.Fetch.TheVariants as fetch
use Rattle.rows.specs.Dues.{fetched}
use Rattle.outlets.specs.declared.count.RowCounts.{RowCounts}

abbrev pub is_row : Result Fetch Fault → Bool
is_row (Ok fetch.Row) = true
is_row (Ok fetch.End) = false
is_row (Err f) = false

abbrev pub is_fault : Result Fetch Fault → Bool
is_fault (Ok x) = false
is_fault (Err f) = true

-- a row that is shown, one that is refused, and a failure
abbrev pub shows : List Column → ℕ → Event → Bool
shows pairs arena (row r) = is_row (fetched pairs arena (row r ∷ []))
shows pairs arena (failure n) = false

abbrev pub refuses : List Column → ℕ → Event → Bool
refuses pairs arena (row r) = is_fault (fetched pairs arena (row r ∷ []))
refuses pairs arena (failure n) = false

abbrev pub fails : Event → Bool
fails (row r) = false
fails (failure n) = true

-- a count stops at 2^64 - 1
abbrev pub capped : ℕ → ℕ
capped n = min n (2 ^ 64 - 1)

abbrev pub counts_of : List Column → ℕ → List Event → RowCounts
counts_of pairs arena coming = record {
  shown = capped (count_by (shows pairs arena) coming);
  refused = capped (count_by (refuses pairs arena) coming);
  failures = capped (count_by fails coming);
}

-- by what an opening must answer: the counts of all events, or its refusal
abbrev pub CountsDue : Result (List Column) Fault → ℕ → List Event → Result RowCounts Fault → Type 0
CountsDue (Ok pairs) arena coming result = result ≡ Ok (counts_of pairs arena coming)
CountsDue (Err f) arena coming result = result ≡ Err f
