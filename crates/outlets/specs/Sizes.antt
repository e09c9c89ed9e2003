-- How much a tape holds: its columns and its events.
use Rattle.std.specs.Prelude.{◌≡◌, ℕ, List, length, Ok, Err, Result}
use Rattle.mysql.specs.declared.fault.Fault.{Fault}
use Rattle.mysql.specs.declared.fault.Refusal.TheVariants.{BrokenTape}
use Rattle.mysql.specs.Faults.{refused}
use Rattle.tape.specs.Format.{Contents, TapeOf, NoTape}
use Rattle.outlets.specs.declared.size.TapeSize.{TapeSize}

-- bytes that are a tape of so many columns and events
pub record SizeOf (bytes : List ℕ) (size : TapeSize) : Type 0 where
  pub contents : Contents
  pub is_tape : TapeOf bytes contents
  pub columns : size.columns ≡ length contents.columns
  pub events : size.events ≡ length contents.events

-- any other bytes are refused with 23
abbrev pub Sized : List ℕ → Result TapeSize Fault → Type 0
Sized bytes (Ok size) = SizeOf bytes size
Sized bytes (Err f) = (f ≡ refused BrokenTape) × NoTape bytes
