-- A value as a number, in the form in which it holds one.
use Rattle.std.specs.Prelude.{◌≡◌, ℕ, List, Ok, Err, Result, from_bits}
use Rattle.std.specs.Borrow.{Bor}
use Rattle.std.specs.Float.{Float, binary32, binary64}
use Rattle.std.proofs.Common.{to_z}
use Rattle.std.specs.Int.{w8, w16, w32, w64}
use Rattle.mysql.specs.declared.fault.Fault.{Fault}
use Rattle.mysql.specs.declared.fault.Refusal.TheVariants.{WrongType}
use Rattle.mysql.specs.Faults.{refused}
use Rattle.mysql.specs.declared.backend.MysqlType.{MysqlType}
use Rattle.mysql.specs.declared.backend.MysqlType.TheVariants as tpe
use Rattle.readings.specs.declared.value.NumericRepresentation.{NumericRepresentation}
use Rattle.readings.specs.declared.value.NumericRepresentation.TheVariants as number
use Rattle.mysql.specs.Answers.{through}
use Rattle.readings.specs.Bytes.{prefix}
use Rattle.readings.specs.Floats.{single, double, IsNumber}

-- what a value of a type and with some bytes holds; a float is what the library makes of its bits
abbrev pub representation : MysqlType → Bor (List ℕ) → Result NumericRepresentation Fault
representation tpe.Tiny raw = through (λ n. number.Tiny (to_z w8 n)) (prefix 1 raw.now)
representation tpe.UnsignedTiny raw = through number.UnsignedTiny (prefix 1 raw.now)
representation tpe.Short raw = through (λ n. number.Small (to_z w16 n)) (prefix 2 raw.now)
representation tpe.UnsignedShort raw = through number.UnsignedSmall (prefix 2 raw.now)
representation tpe.Long raw = through (λ n. number.Medium (to_z w32 n)) (prefix 4 raw.now)
representation tpe.UnsignedLong raw = through number.UnsignedMedium (prefix 4 raw.now)
representation tpe.LongLong raw = through (λ n. number.Big (to_z w64 n)) (prefix 8 raw.now)
representation tpe.UnsignedLongLong raw = through number.UnsignedBig (prefix 8 raw.now)
representation tpe.Float raw = through (λ n. number.Float (from_bits binary32 n)) (prefix 4 raw.now)
representation tpe.Double raw = through (λ n. number.Double (from_bits binary64 n)) (prefix 8 raw.now)
representation tpe.Numeric raw = Ok (number.Decimal raw)
representation tpe.Time raw = Err (refused WrongType)
representation tpe.Date raw = Err (refused WrongType)
representation tpe.DateTime raw = Err (refused WrongType)
representation tpe.Timestamp raw = Err (refused WrongType)
representation tpe.String raw = Err (refused WrongType)
representation tpe.Blob raw = Err (refused WrongType)
representation tpe.Bit raw = Err (refused WrongType)
representation tpe.Set raw = Err (refused WrongType)
representation tpe.Enum raw = Err (refused WrongType)

-- a float, in a form, that is the number which bits stand for; or the fault there was in place of bits
abbrev pub HoldsFloat : (Float → NumericRepresentation) → (ℕ → Float) → Result ℕ Fault → Result NumericRepresentation Fault → Type 0
HoldsFloat form by_bits (Ok b) r = (x : Float) × (r ≡ Ok (form x)) × IsNumber x (by_bits b)
HoldsFloat form by_bits (Err f) r = r ≡ Err f

-- the same, where a float is told by the standard's fields
abbrev pub Holds : MysqlType → Bor (List ℕ) → Result NumericRepresentation Fault → Type 0
Holds tpe.Float raw r = HoldsFloat number.Float single (prefix 4 raw.now) r
Holds tpe.Double raw r = HoldsFloat number.Double double (prefix 8 raw.now) r
Holds t raw r = r ≡ representation t raw
