-- The record MYSQL_TIME of MySQL's C headers, as it lies on 64-bit Linux, and what a reading of one comes to.
use Rattle.std.specs.Prelude.{◌≡◌, ℕ, ◌^◌, ◌<◌, ◌≤◌, true, false, cond, List, [], ◌∷◌, ◌++◌, length, ℤ, Ok, Err, Result, slice_index, FitsSigned}
use Rattle.std.specs.List.{concat}
use Rattle.std.specs.Int.{w32, w64, to_le_bytes, cast_unsigned}
use Rattle.mysql.specs.declared.fault.Fault.{Fault}
use Rattle.mysql.specs.declared.fault.Refusal.TheVariants.{WrongType, TooShort, InvalidSign, NegativeTime}
use Rattle.mysql.specs.Faults.{refused}
use Rattle.mysql.specs.declared.backend.MysqlType.{MysqlType}
use Rattle.readings.specs.declared.date_and_time.MysqlTime.{MysqlTime}
use Rattle.readings.specs.Times.{is_time}

-- the numbers are ones that the fields of C hold
pub record InRange (t : MysqlTime) : Type 0 where
  pub year : t.year < 2 ^ 32
  pub month : t.month < 2 ^ 32
  pub day : t.day < 2 ^ 32
  pub hour : t.hour < 2 ^ 32
  pub minute : t.minute < 2 ^ 32
  pub second : t.second < 2 ^ 32
  pub second_part : t.second_part < 2 ^ 64
  pub time_type : FitsSigned w32 t.time_type
  pub time_zone_displacement : FitsSigned w32 t.time_zone_displacement

-- a signed number in four bytes, in two's complement
abbrev pub signed_bytes : ℤ → List ℕ
signed_bytes z = to_le_bytes w32 (cast_unsigned w32 z)

-- The fields in C's order, each lowest byte first. Three bytes behind the sign and four at the end are spare, and may be any.
abbrev pub record_bytes : MysqlTime → (gap tail : List ℕ) → List ℕ
record_bytes t gap tail = concat (
    to_le_bytes w32 t.year ∷ to_le_bytes w32 t.month ∷ to_le_bytes w32 t.day
    ∷ to_le_bytes w32 t.hour ∷ to_le_bytes w32 t.minute ∷ to_le_bytes w32 t.second ∷ to_le_bytes w64 t.second_part
    ∷ (cond t.neg 1 0 ∷ []) ∷ gap ∷ signed_bytes t.time_type ∷ signed_bytes t.time_zone_displacement ∷ tail ∷ [])

-- bytes that begin with the record of a time: what is spare, and what follows, is free
pub record IsRecord (t : MysqlTime) (bs : List ℕ) : Type 0 where
  pub in_range : InRange t
  pub gap : List ℕ
  pub gap_length : length gap ≡ 3
  pub tail : List ℕ
  pub tail_length : length tail ≡ 4
  pub rest : List ℕ
  pub bytes : bs ≡ record_bytes t gap tail ++ rest

-- A reading of bytes, of which there must be 48, else it is refused with 15. Byte 32, the sign, must be 0 or 1, else it is refused
-- with 16. The bytes are the record of a time then, and each time whose record they are is what is read; a negative one is refused with 17.
pub record ReadsRecord (bs : List ℕ) (r : Result MysqlTime Fault) : Type 0 where
  pub short : length bs < 48 → r ≡ Err (refused TooShort)
  pub no_sign : 48 ≤ length bs → 1 < slice_index bs 32 → r ≡ Err (refused InvalidSign)
  pub is_record : 48 ≤ length bs → slice_index bs 32 ≤ 1 → (t : MysqlTime) × IsRecord t bs
  pub reads_back : (t : MysqlTime) → IsRecord t bs → r ≡ cond t.neg (Err (refused NegativeTime)) (Ok t)

-- a reading of a value as a time: other types than those of times are refused with 14
pub record ReadsTime (t : MysqlType) (bs : List ℕ) (r : Result MysqlTime Fault) : Type 0 where
  pub other_type : is_time t ≡ false → r ≡ Err (refused WrongType)
  pub time : is_time t ≡ true → ReadsRecord bs r
