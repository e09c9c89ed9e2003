-- Answers carried on: a value goes through a function, or on to the next answer; a fault stays as it is.
use Rattle.std.specs.Prelude.{Ok, Err, Result}
use Rattle.mysql.specs.declared.fault.Fault.{Fault}

abbrev pub through : {X Y : Type 0} → (X → Y) → Result X Fault → Result Y Fault
through f (Ok x) = Ok (f x)
through f (Err e) = Err e

abbrev pub next : {X Y : Type 0} → Result X Fault → (X → Result Y Fault) → Result Y Fault
next (Ok x) k = k x
next (Err e) k = Err e
