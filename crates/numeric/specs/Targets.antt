-- The range of a target: an integer type holds the numbers from -half up to half - 1.
use Rattle.std.specs.Prelude.{ℕ, cond, ℤ, pos, negsuc, Ok, Err, Result, nat_lt}
use Rattle.mysql.specs.declared.fault.Fault.{Fault}
use Rattle.mysql.specs.declared.fault.Refusal.TheVariants.{OutOfRange}
use Rattle.mysql.specs.Faults.{refused}

-- a number of the target's range, or refusal 18; `negsuc n` is -(n + 1)
abbrev pub in_range : ℕ → ℤ → Result ℤ Fault
in_range half (pos n) = cond (nat_lt n half) (Ok (pos n)) (Err (refused OutOfRange))
in_range half (negsuc n) = cond (nat_lt n half) (Ok (negsuc n)) (Err (refused OutOfRange))
