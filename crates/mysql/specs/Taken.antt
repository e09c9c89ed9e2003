-- With which code and flags a column is bound. A column keeps its own where no type is wanted of it, or where the pair of the
-- wanted type and its code is kept; its flags must be known then. Any other column is bound as the wanted type asks.
use Rattle.std.specs.Prelude.{ℕ, cond, Some, None, Ok, Err, Option, Result}
use Rattle.mysql.specs.declared.fault.Fault.{Fault}
use Rattle.mysql.specs.declared.fault.Refusal.TheVariants.{UnknownFlags}
use Rattle.mysql.specs.declared.backend.MysqlType.{MysqlType}
use Rattle.mysql.specs.Faults.{refused}
use Rattle.mysql.specs.Types.{pair_of, known}
use Rattle.mysql.specs.Kept.{keeps}

-- a column's flags, or refusal 7
abbrev pub flags_of : ℕ → Result ℕ Fault
flags_of flags = cond (known flags) (Ok flags) (Err (refused UnknownFlags))

-- a column's own code and flags, or refusal 7
abbrev pub own_pair : ℕ → ℕ → Result (ℕ × ℕ) Fault
own_pair code flags = cond (known flags) (Ok (code, flags)) (Err (refused UnknownFlags))

abbrev pub taken_pair : Option MysqlType → ℕ → ℕ → Result (ℕ × ℕ) Fault
taken_pair None code flags = own_pair code flags
taken_pair (Some t) code flags = cond (keeps t code) (own_pair code flags) (Ok (pair_of t))
