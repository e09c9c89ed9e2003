-- What a result is as a class list, and what is left of the arena that it was gone through over.
use Rattle.std.specs.Prelude.{◌≡◌, ℕ, Bool, true, false, cond, nat_lt, List, [], length, Ok, Err, Option, Result}
use Rattle.mysql.specs.declared.backend.MysqlType.{MysqlType}
use Rattle.mysql.specs.declared.bind.Column.{Column}
use Rattle.mysql.specs.declared.fault.Fault.{Fault}
use Rattle.host.specs.Meanings.{Event, Meaning}
use Rattle.rows.specs.Dues as dues
use Rattle.going.specs.Arenas as arenas
use Rattle.class_list.specs.declared.telling.NotListed.{NotListed}
use Rattle.class_list.specs.declared.telling.NotListed.TheVariants.{FewColumns, NotOpened}
use Rattle.class_list.specs.Lines.{Line, lines_of}

-- fewer than three columns are no class list, and are not opened
abbrev pub is_few : Meaning → Bool
is_few m = nat_lt (length m.columns) 3

-- by the opening: a line for each event that was to come, or the refusal
abbrev pub listed_by : Result (List Column) Fault → (arena : ℕ) → List Event → Result (List Line) NotListed
listed_by (Ok pairs) arena coming = Ok (lines_of pairs arena coming)
listed_by (Err f) arena coming = Err (NotOpened f)

-- any other result is opened as a new session opens it
abbrev pub opened : Meaning → (arena : ℕ) → List (Option MysqlType) → Result (List Column) Fault
opened m arena wanted = dues.opening false arena m.carries wanted m.columns

abbrev pub listed : Meaning → (arena : ℕ) → List (Option MysqlType) → Result (List Line) NotListed
listed m arena wanted = cond (is_few m) (Err (FewColumns (length m.columns))) (listed_by (opened m arena wanted) arena m.coming)

-- the lines, of which there are none where there is no class list; and whether there is one
abbrev pub lines_in : Result (List Line) NotListed → List Line
lines_in (Ok lines) = lines
lines_in (Err e) = []

abbrev pub outcome_of : Result (List Line) NotListed → Result (Unit {0}) NotListed
outcome_of (Ok lines) = Ok tt
outcome_of (Err e) = Err e

-- the arena is as it was where nothing is opened
abbrev pub ArenaIf : (few : Bool) → Meaning → List (Option MysqlType) → (a a' : List ℕ) → Type 0
ArenaIf true m wanted a a' = a' ≡ a
ArenaIf false m wanted a a' = arenas.LeavesArena (opened m (length a) wanted) m.coming a a'

abbrev pub LeavesArena : Meaning → List (Option MysqlType) → (a a' : List ℕ) → Type 0
LeavesArena m wanted a a' = ArenaIf (is_few m) m wanted a a'
