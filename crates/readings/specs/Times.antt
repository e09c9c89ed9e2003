-- The way back from bytes to a time, which takes each field from its place in the record MYSQL_TIME. Nobody need believe the places:
-- that this reads each record back as the time that it is of, and refuses the rest as it has to, is a law (`TimesReadBack`).
use Rattle.std.specs.Prelude.{ℕ, Bool, false, cond, List, length, take, drop, Ok, Err, Result, ◌==◌, nat_le, slice_index}
use Rattle.std.proofs.Common.{to_z}
use Rattle.std.specs.Int.{w32}
use Rattle.mysql.specs.declared.fault.Fault.{Fault}
use Rattle.mysql.specs.declared.fault.Refusal.TheVariants.{WrongType, TooShort, InvalidSign, NegativeTime}
use Rattle.mysql.specs.Faults.{refused}
use Rattle.mysql.specs.Kept.{row_of}
use Rattle.mysql.specs.Ranges.{between}
use Rattle.mysql.specs.declared.backend.MysqlType.{MysqlType}
use Rattle.readings.specs.declared.date_and_time.MysqlTime.{MysqlTime}
use Rattle.readings.specs.Bytes.{le}

-- the number in so many bytes from an offset on
abbrev pub number_at : ℕ → ℕ → List ℕ → ℕ
number_at width at bs = le (take width (drop at bs))

-- the record, where its sign is not negative
abbrev pub record_at : List ℕ → MysqlTime
record_at bs = record {
  year = number_at 4 0 bs;
  month = number_at 4 4 bs;
  day = number_at 4 8 bs;
  hour = number_at 4 12 bs;
  minute = number_at 4 16 bs;
  second = number_at 4 20 bs;
  second_part = number_at 8 24 bs;
  neg = false;
  time_type = to_z w32 (number_at 4 36 bs);
  time_zone_displacement = to_z w32 (number_at 4 40 bs);
}

-- by the byte for the sign
abbrev pub by_sign : ℕ → List ℕ → Result MysqlTime Fault
by_sign sign bs = cond (sign == 0) (Ok (record_at bs)) (cond (sign == 1) (Err (refused NegativeTime)) (Err (refused InvalidSign)))

-- the types from Time to Timestamp have the numbers 11 to 14
abbrev pub is_time : MysqlType → Bool
is_time t = between 11 14 (row_of t)

abbrev pub time : MysqlType → List ℕ → Result MysqlTime Fault
time t bs =
    cond (is_time t)
    (cond (nat_le 48 (length bs)) (by_sign (slice_index bs 32) bs) (Err (refused TooShort)))
    (Err (refused WrongType))
