-- The whole number that a value stands for, by its type and bytes. A target holds the numbers from -half up to half - 1.
use Rattle.std.specs.Prelude.{ℕ, List, ℤ, pos, Err, Result}
use Rattle.std.proofs.Common.{to_z}
use Rattle.std.specs.Int.{w8, w16, w32, w64}
use Rattle.mysql.specs.declared.fault.Fault.{Fault}
use Rattle.mysql.specs.declared.fault.Refusal.TheVariants.{WrongType}
use Rattle.mysql.specs.Faults.{refused}
use Rattle.mysql.specs.declared.backend.MysqlType.{MysqlType}
use Rattle.mysql.specs.declared.backend.MysqlType.TheVariants.{Tiny, UnsignedTiny, Short, UnsignedShort, Long, UnsignedLong, LongLong, UnsignedLongLong, Float, Double, Numeric, Time, Date, DateTime, Timestamp, String, Blob, Bit, Set, Enum}
use Rattle.mysql.specs.Answers.{next}
use Rattle.numeric.specs.Targets.{in_range}
use Rattle.numeric.specs.Decimals.{decimal}
use Rattle.readings.specs.Bytes.{prefix}
use Rattle.readings.specs.Floats.{single, double, truncated}

-- Whole numbers lie lowest byte first, signed ones in two's complement (`to_z`). Floats are IEEE 754's and lose their fraction.
-- Numeric is text. No other type has a number: refusal 14.
abbrev pub integer : ℕ → MysqlType → List ℕ → Result ℤ Fault
integer half Tiny bs = next (prefix 1 bs) (λ n. in_range half (to_z w8 n))
integer half UnsignedTiny bs = next (prefix 1 bs) (λ n. in_range half (pos n))
integer half Short bs = next (prefix 2 bs) (λ n. in_range half (to_z w16 n))
integer half UnsignedShort bs = next (prefix 2 bs) (λ n. in_range half (pos n))
integer half Long bs = next (prefix 4 bs) (λ n. in_range half (to_z w32 n))
integer half UnsignedLong bs = next (prefix 4 bs) (λ n. in_range half (pos n))
integer half LongLong bs = next (prefix 8 bs) (λ n. in_range half (to_z w64 n))
integer half UnsignedLongLong bs = next (prefix 8 bs) (λ n. in_range half (pos n))
integer half Float bs = next (prefix 4 bs) (λ n. next (truncated (single n)) (in_range half))
integer half Double bs = next (prefix 8 bs) (λ n. next (truncated (double n)) (in_range half))
integer half Numeric bs = decimal half bs
integer half Time bs = Err (refused WrongType)
integer half Date bs = Err (refused WrongType)
integer half DateTime bs = Err (refused WrongType)
integer half Timestamp bs = Err (refused WrongType)
integer half String bs = Err (refused WrongType)
integer half Blob bs = Err (refused WrongType)
integer half Bit bs = Err (refused WrongType)
integer half Set bs = Err (refused WrongType)
integer half Enum bs = Err (refused WrongType)
