-- What was asked of a session and what it said, call by call; and what such a history has done: which opening was granted, how many
-- events its fetches removed, and whether its last fetch showed a row.
use Rattle.std.specs.Prelude.{ℕ, ◌+◌, Bool, true, false, cond, ◌||◌, List, [], ◌∷◌, ℤ, Some, None, Ok, Err, Option, Result, ◌==◌}
use Rattle.mysql.specs.declared.backend.MysqlType.{MysqlType}
use Rattle.mysql.specs.declared.bind.Column.{Column}
use Rattle.mysql.specs.declared.fault.Fault.{Fault}
use Rattle.mysql.specs.Refusals.{number_of}
use Rattle.readings.specs.declared.date_and_time.MysqlTime.{MysqlTime}
use Rattle.rows.specs.Bounds.{bound}

-- what can be asked: an opening with wanted types, a fetch, or a reading of a column, raw or as a type
pub data Asked : Type 0 where
  opening : List (Option MysqlType) → Asked
  fetch : Asked
  reading : ℕ → Asked
  integer : ℕ → Asked
  big_integer : ℕ → Asked
  time : ℕ → Asked

-- what can be said
pub data Said : Type 0 where
  opened : Said
  row : Said
  end : Said
  null : Said
  bytes : MysqlType → List ℕ → Said
  number : ℤ → Said
  moment : MysqlTime → Said
  refused_with : Fault → Said

pub record Entry : Type 0 where
  pub asked : Asked
  pub said : Said

-- an opening that was granted
abbrev pub granted_by : Asked → Said → Option (List (Option MysqlType))
granted_by (opening wanted) opened = Some wanted
granted_by asked said = None

-- the first of two
abbrev pub first_of : {X : Type 0} → Option X → Option X → Option X
first_of (Some x) o = Some x
first_of None o = o

-- the wanted types of the opening that was granted, if one was
abbrev pub granted : List Entry → Option (List (Option MysqlType))
granted [] = None
granted (e ∷ es) = first_of (granted_by e.asked e.said) (granted es)

-- the codes and flags that it bound the columns with
abbrev pub pairs_if : Result (List Column) Fault → Option (List Column)
pairs_if (Ok pairs) = Some pairs
pairs_if (Err f) = None

abbrev pub bound_with : List Column → Option (List (Option MysqlType)) → Option (List Column)
bound_with columns None = None
bound_with columns (Some wanted) = pairs_if (bound wanted columns)

-- a fetch removes an event unless it fails one of its two checks, 1 and 3; removing from no events leaves none
abbrev pub is_check : ℕ → Bool
is_check n = n == 1 || n == 3

abbrev pub removes : Asked → Said → ℕ
removes fetch (refused_with f) = cond (is_check (number_of f.refusal)) 0 1
removes fetch said = 1
removes asked said = 0

abbrev pub removed : List Entry → ℕ
removed [] = 0
removed (e ∷ es) = removes e.asked e.said + removed es

-- whether a row is shown after a history, where one was shown before it or not: as its last fetch said
abbrev pub shows_row : Said → Bool
shows_row row = true
shows_row said = false

abbrev pub shows_after : Bool → Asked → Said → Bool
shows_after b fetch said = shows_row said
shows_after b asked said = b

abbrev pub showing_from : Bool → List Entry → Bool
showing_from b [] = b
showing_from b (e ∷ es) = showing_from (shows_after b e.asked e.said) es

abbrev pub showing : List Entry → Bool
showing es = showing_from false es

-- a reading, raw or as a type
abbrev pub IsReading : Asked → Type 0
IsReading (opening wanted) = ⊥
IsReading fetch = ⊥
IsReading asked = Unit {0}

-- no fetch in between
abbrev pub NotFetch : Asked → Type 0
NotFetch fetch = ⊥
NotFetch asked = Unit {0}

abbrev pub NoFetch : List Entry → Type 0
NoFetch [] = Unit {0}
NoFetch (e ∷ es) = NotFetch e.asked × NoFetch es
