-- Types, and the pairs of code and flags that stand for them.
use Rattle.std.specs.Prelude.{ℕ, Bool, cond, not, ◌&&◌, [], ◌∷◌, Some, None, Ok, Err, Option, Result, ◌==◌, bit_and}
use Rattle.mysql.specs.declared.fault.Fault.{Fault}
use Rattle.mysql.specs.declared.fault.Refusal.TheVariants.{NoType}
use Rattle.mysql.specs.declared.backend.MysqlType.{MysqlType}
use Rattle.mysql.specs.declared.backend.MysqlType.TheVariants.{Tiny, UnsignedTiny, Short, UnsignedShort, Long, UnsignedLong, LongLong, UnsignedLongLong, Float, Double, Numeric, Time, Date, DateTime, Timestamp, String, Blob, Bit, Set, Enum}
use Rattle.mysql.specs.Ranges.{between, among}
use Rattle.mysql.specs.Faults.{refused}

-- a flag is set where its bit is
abbrev pub has : ℕ → ℕ → Bool
has flags flag = not (bit_and flags flag == 0)

-- what a type asks for
abbrev pub pair_of : MysqlType → ℕ × ℕ
pair_of Tiny = (1, 0)
pair_of UnsignedTiny = (1, 32)
pair_of Short = (2, 0)
pair_of UnsignedShort = (2, 32)
pair_of Long = (3, 0)
pair_of UnsignedLong = (3, 32)
pair_of LongLong = (8, 0)
pair_of UnsignedLongLong = (8, 32)
pair_of Float = (4, 0)
pair_of Double = (5, 0)
pair_of Numeric = (246, 0)
pair_of Time = (11, 0)
pair_of Date = (10, 0)
pair_of DateTime = (12, 0)
pair_of Timestamp = (7, 0)
pair_of String = (254, 0)
pair_of Blob = (252, 0)
pair_of Bit = (16, 0)
pair_of Set = (254, 2048)
pair_of Enum = (254, 256)

-- flag 32 says that a whole number has no sign
abbrev pub by_sign : ℕ → MysqlType → MysqlType → MysqlType
by_sign flags unsigned signed = cond (has flags 32) unsigned signed

-- flags 256, 2048 and 128 tell text and its kin apart, in this order
abbrev pub text_type : ℕ → MysqlType
text_type flags = cond (has flags 256) Enum (cond (has flags 2048) Set (cond (has flags 128) Blob String))

-- the type that a code and flags stand for, or refusal 12
abbrev pub type_of : ℕ → ℕ → Result MysqlType Fault
type_of code flags =
    cond (code == 1) (Ok (by_sign flags UnsignedTiny Tiny))
    (cond (code == 2) (Ok (by_sign flags UnsignedShort Short))
    (cond (among (3 ∷ 9 ∷ []) code) (Ok (by_sign flags UnsignedLong Long))
    (cond (code == 8) (Ok (by_sign flags UnsignedLongLong LongLong))
    (cond (code == 13 && has flags 32) (Ok UnsignedShort)
    (cond (code == 4) (Ok Float)
    (cond (code == 5) (Ok Double)
    (cond (among (0 ∷ 246 ∷ []) code) (Ok Numeric)
    (cond (code == 7) (Ok Timestamp)
    (cond (code == 10) (Ok Date)
    (cond (code == 11) (Ok Time)
    (cond (code == 12) (Ok DateTime)
    (cond (code == 16) (Ok Bit)
    (cond (code == 245) (Ok String)
    (cond (between 249 254 code) (Ok (text_type flags))
    (Err (refused NoType))))))))))))))))

-- what a type reads back as, once its pair was bound: itself, but for Blob, whose pair has no binary flag
abbrev pub read_back : MysqlType → MysqlType
read_back Tiny = Tiny
read_back UnsignedTiny = UnsignedTiny
read_back Short = Short
read_back UnsignedShort = UnsignedShort
read_back Long = Long
read_back UnsignedLong = UnsignedLong
read_back LongLong = LongLong
read_back UnsignedLongLong = UnsignedLongLong
read_back Float = Float
read_back Double = Double
read_back Numeric = Numeric
read_back Time = Time
read_back Date = Date
read_back DateTime = DateTime
read_back Timestamp = Timestamp
read_back String = String
read_back Blob = String
read_back Bit = Bit
read_back Set = Set
read_back Enum = Enum

-- the size of a value, at the codes whose values all have one
abbrev pub size_of : ℕ → Option ℕ
size_of code =
    cond (code == 1) (Some 1)
    (cond (among (2 ∷ 13 ∷ []) code) (Some 2)
    (cond (among (3 ∷ 4 ∷ 9 ∷ []) code) (Some 4)
    (cond (among (5 ∷ 8 ∷ []) code) (Some 8)
    (cond (among (7 ∷ 10 ∷ 11 ∷ 12 ∷ []) code) (Some 48) None))))

-- flags are known where they have no bit outside 0x7C3FFFFF
abbrev pub known : ℕ → Bool
known flags = bit_and flags 0x7C3FFFFF == flags
