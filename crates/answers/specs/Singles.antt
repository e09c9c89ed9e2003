-- The answers to questions of a type, a code, flags, an error number or one value.
use Rattle.std.specs.Prelude.{ℕ, ◌+◌, ◌*◌, ◌==◌, zero, suc, cond, List, [], ◌∷◌, ◌++◌, Some, None, Option, Ok, Err, Result, codes}
use Rattle.hex.specs.Hex.{encode_lower}
use Rattle.mysql.specs.declared.backend.MysqlType.{MysqlType}
use Rattle.mysql.specs.declared.fault.Fault.{Fault}
use Rattle.mysql.specs.declared.result.DatabaseErrorKind.{DatabaseErrorKind}
use Rattle.mysql.specs.declared.result.DatabaseErrorKind.TheVariants.{UniqueViolation, ForeignKeyViolation, UnableToSendCommand, SerializationFailure, ReadOnlyTransaction, RestrictViolation, NotNullViolation, CheckViolation, ExclusionViolation, ClosedConnection, Unknown}
use Rattle.mysql.specs.Refusals.{number_of}
use Rattle.mysql.specs.Types.{pair_of}
use Rattle.mysql.specs.Kept.{keeps, row_of}
use Rattle.readings.specs.declared.date_and_time.MysqlTime.{MysqlTime}
use Rattle.answers.specs.Texts.{number, signed, refusal}

-- the pair that a type asks for
abbrev pub asks : MysqlType → List ℕ
asks t = number (pair_of t).0 ++ number (pair_of t).1

-- a type by its number; a dash is refusal 12
abbrev pub type_word : Result MysqlType Fault → List ℕ
type_word (Ok t) = number (row_of t)
type_word (Err f) = cond (number_of f.refusal == 12) (codes " -") (refusal f)

-- a size; a dash is none
abbrev pub size_word : Option ℕ → List ℕ
size_word None = codes " -"
size_word (Some n) = number n

-- flags that are taken as they are; `no` is refusal 7
abbrev pub flags_word : ℕ → Result ℕ Fault → List ℕ
flags_word flags (Ok f) = cond (f == flags) (codes " ok") (number f)
flags_word flags (Err f) = cond (number_of f.refusal == 7) (codes " no") (refusal f)

-- the numbers of the kinds
abbrev pub kind_number : DatabaseErrorKind → ℕ
kind_number UniqueViolation = 0
kind_number ForeignKeyViolation = 1
kind_number UnableToSendCommand = 2
kind_number SerializationFailure = 3
kind_number ReadOnlyTransaction = 4
kind_number NotNullViolation = 5
kind_number CheckViolation = 6
kind_number ClosedConnection = 7
kind_number Unknown = 8
kind_number RestrictViolation = 9
kind_number ExclusionViolation = 10

-- an integer, or its refusal
abbrev pub integer_word : {X : Type 0} → (X → List ℕ) → Result X Fault → List ℕ
integer_word text (Ok x) = codes " " ++ text x
integer_word text (Err f) = refusal f

-- a time's fields, in their order, or its refusal
abbrev pub date_words : MysqlTime → List ℕ
date_words t = number t.year ++ (number t.month ++ number t.day)

abbrev pub clock_words : MysqlTime → List ℕ
clock_words t = number t.hour ++ (number t.minute ++ number t.second)

abbrev pub further_words : MysqlTime → List ℕ
further_words t = number t.second_part ++ (signed t.time_type ++ signed t.time_zone_displacement)

abbrev pub time_words : Result MysqlTime Fault → List ℕ
time_words (Ok t) = date_words t ++ (clock_words t ++ further_words t)
time_words (Err f) = refusal f

-- Which of n codes from c on a type keeps: a bit each, the lowest for the first. And the same of all codes below 8 n, in n bytes.
abbrev pub kept_bits : MysqlType → (c n : ℕ) → ℕ
kept_bits t c zero = 0
kept_bits t c (suc n) = cond (keeps t c) 1 0 + 2 * kept_bits t (c + 1) n

abbrev pub kept_bytes : MysqlType → ℕ → List ℕ
kept_bytes t zero = []
kept_bytes t (suc n) = kept_bytes t n ++ kept_bits t (8 * n) 8 ∷ []

abbrev pub keeps_word : MysqlType → List ℕ
keeps_word t = codes " " ++ encode_lower (kept_bytes t 32)
