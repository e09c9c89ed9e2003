-- What is said of a class list that was recorded: of the columns and events of the tape that the bytes are, or that they are none.
use Rattle.std.specs.Prelude.{◌≡◌, ℕ, ℤ, false, List, [], ◌⊎◌, map, length, Err, Option, Result}
use Rattle.mysql.specs.declared.bind.Column.{Column}
use Rattle.mysql.specs.declared.fault.Fault.{Fault}
use Rattle.mysql.specs.declared.fault.Refusal.TheVariants.{BrokenTape}
use Rattle.mysql.specs.Faults.{refused}
use Rattle.rows.specs.Dues.{opening}
use Rattle.tape.specs.Format.{Contents, TapeOf, NoTape}
use Rattle.tape_host.specs.Tapes.{own_code, event_shown}
use Rattle.going.specs.Arenas.{LeavesArena}
use Rattle.outlets.specs.declared.count.RowCounts.{RowCounts}
use Rattle.outlets.specs.Events.{CountsDue}
use Rattle.outlets.specs.Outlets.{OutletDue}

-- bytes that are the tape of contents of which something holds
pub record Recorded (bytes : List ℕ) (Holds : Contents → Type 0) : Type 0 where
  pub contents : Contents
  pub is_tape : TapeOf bytes contents
  pub holds : Holds contents

-- what an opening with no wanted types must answer over them: each column carries its own code
abbrev pub opened : ℕ → Contents → Result (List Column) Fault
opened arena c = opening false arena (own_code c.columns) [] c.columns

-- the counts and what they leave of the arena; or refusal 23 and an arena as it was
abbrev pub CountsAndArena : Contents → (a a' : List ℕ) → Result RowCounts Fault → Type 0
CountsAndArena c a a' result =
    let coming = map event_shown c.events in
    CountsDue (opened (length a) c) (length a) coming result × LeavesArena (opened (length a) c) coming a a'

abbrev pub RecordedCounts : List ℕ → (a a' : List ℕ) → Result RowCounts Fault → Type 0
RecordedCounts bytes a a' result =
    Recorded bytes (λ c. CountsAndArena c a a' result)
    ⊎ (NoTape bytes × (result ≡ Err (refused BrokenTape)) × (a' ≡ a))

-- the outlet and what it leaves of the arena; or refusal 23, and arena and buffer as they were
abbrev pub RecordedOutlet : List ℕ → (a a' : List ℕ) → ℤ → List ℕ → Result (Option ℕ) Fault → List ℕ → Type 0
RecordedOutlet bytes a a' class into result into' =
    Recorded bytes (λ c. OutletDue (opened (length a) c) a a' class (map event_shown c.events) into result into')
    ⊎ (NoTape bytes × (result ≡ Err (refused BrokenTape)) × (into' ≡ into) × (a' ≡ a))
