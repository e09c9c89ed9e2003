-- A reading of a value that may be null: a null is refusal 13.
use Rattle.std.specs.Prelude.{ℕ, List, Some, None, Err, Option, Result}
use Rattle.mysql.specs.declared.fault.Fault.{Fault}
use Rattle.mysql.specs.declared.fault.Refusal.TheVariants.{UnexpectedNull}
use Rattle.mysql.specs.declared.backend.MysqlType.{MysqlType}
use Rattle.mysql.specs.Faults.{refused}
use Rattle.readings.specs.declared.value.MysqlValue.{MysqlValue}

abbrev pub nullable : {X : Type 0} → (MysqlType → List ℕ → Result X Fault) → Option MysqlValue → Result X Fault
nullable reads (Some v) = reads v.tpe v.raw.now
nullable reads None = Err (refused UnexpectedNull)
