-- A class list: column 0 is a class, read as a whole number of 32 bits, and column 1 its outlet. The outlet of a class is that of the first row
-- with this class that is shown. No row that is refused, and none of another class, has any part in the answer.
use Rattle.std.specs.Prelude.{◌≡◌, ℕ, ◌^◌, ℤ, true, cond, List, [], ◌∷◌, ◌++◌, ◌⊎◌, length, drop, Some, None, Ok, Err, Option, Result, nat_le}
use Rattle.std.specs.List.{AllByRecursion}
use Rattle.mysql.specs.declared.backend.MysqlType.{MysqlType}
use Rattle.mysql.specs.declared.bind.Column.{Column}
use Rattle.mysql.specs.declared.fault.Fault.{Fault}
use Rattle.host.specs.Meanings.{Row, Event, row, failure}
use Rattle.readings.specs.Integers.{integer}
use Rattle.rows.specs.Dues.{read, read_as}
use Rattle.going.specs.Arenas.{LeavesArena}
use Rattle.outlets.specs.Events.{shows}

-- what a shown row has as its class, and as the bytes of its outlet
abbrev pub class_of : List Column → Row → Result ℤ Fault
class_of pairs r = read_as (integer (2 ^ 31)) 0 (read pairs (Some r) 0)

-- a reading of bytes as they are
abbrev pub as_text : MysqlType → List ℕ → Result (List ℕ) Fault
as_text t bs = Ok bs

abbrev pub outlet_of : List Column → Row → Result (List ℕ) Fault
outlet_of pairs r = read_as as_text 1 (read pairs (Some r) 1)

-- an event shows a row of a class
abbrev pub ShowsClass : List Column → ℕ → ℤ → Event → Type 0
ShowsClass pairs arena class (row r) = (shows pairs arena (row r) ≡ true) × (class_of pairs r ≡ Ok class)
ShowsClass pairs arena class (failure n) = ⊥

-- bytes at the front of a buffer that has room for them; else the buffer as it is
abbrev pub copied : List ℕ → List ℕ → List ℕ
copied bs into = cond (nat_le (length bs) (length into)) (bs ++ drop (length bs) into) into

-- an outlet is copied and its length answered, or the refusal of its reading is answered
abbrev pub Copied : Result (List ℕ) Fault → Result ℕ Fault → (into into' : List ℕ) → Type 0
Copied (Ok bs) result into into' = (result ≡ Ok (length bs)) × (into' ≡ copied bs into)
Copied (Err f) result into into' = (result ≡ Err f) × (into' ≡ into)

abbrev pub some_if : Result ℕ Fault → Result (Option ℕ) Fault
some_if (Ok n) = Ok (Some n)
some_if (Err f) = Err f

-- the first row of the class that is shown, with its outlet; no later event is fetched
pub record Found (pairs : List Column) (a a' : List ℕ) (class : ℤ) (coming : List Event) (into : List ℕ) (result : Result (Option ℕ) Fault) (into' : List ℕ) : Type 0 where
  pub before : List Event
  pub is : Row
  pub after : List Event
  pub there : coming ≡ before ++ (row is ∷ after)
  pub shown : ShowsClass pairs (length a) class (row is)
  pub first : AllByRecursion (λ e. ShowsClass pairs (length a) class e → ⊥) before
  pub answer : Result ℕ Fault
  pub answers : result ≡ some_if answer
  pub outlet : Copied (outlet_of pairs is) answer into into'
  pub arena : LeavesArena (Ok pairs) (before ++ row is ∷ []) a a'

-- no such row
pub record NotFound (pairs : List Column) (a a' : List ℕ) (class : ℤ) (coming : List Event) (into : List ℕ) (result : Result (Option ℕ) Fault) (into' : List ℕ) : Type 0 where
  pub nowhere : AllByRecursion (λ e. ShowsClass pairs (length a) class e → ⊥) coming
  pub none : result ≡ Ok None
  pub same : into' ≡ into
  pub arena : LeavesArena (Ok pairs) coming a a'

abbrev pub OutletIn : List Column → (a a' : List ℕ) → ℤ → List Event → List ℕ → Result (Option ℕ) Fault → List ℕ → Type 0
OutletIn pairs a a' class coming into result into' = Found pairs a a' class coming into result into' ⊎ NotFound pairs a a' class coming into result into'

-- by what an opening must answer
abbrev pub OutletDue : Result (List Column) Fault → (a a' : List ℕ) → ℤ → List Event → List ℕ → Result (Option ℕ) Fault → List ℕ → Type 0
OutletDue (Ok pairs) a a' class coming into result into' = OutletIn pairs a a' class coming into result into'
OutletDue (Err f) a a' class coming into result into' = (result ≡ Err f) × (into' ≡ into) × (a' ≡ a)
