-- What the readings come to, in terms of what was written.
use Rattle.std.specs.Prelude.{◌≡◌, ℕ, ◌+◌, ◌-◌, ◌*◌, ◌^◌, ◌<◌, ◌≤◌, Bool, true, false, cond, List, ℤ, pos, neg_ℤ, Ok, Err}
use Rattle.std.specs.Float.{nan, inf, fin}
use Rattle.std.specs.Float.Ieee.{up, down}
use Rattle.mysql.specs.declared.fault.Refusal.TheVariants.{OutOfRange}
use Rattle.mysql.specs.Faults.{refused}
use Rattle.std.specs.List.{AllByRecursion}
use Rattle.mysql.specs.declared.backend.MysqlType.{MysqlType}
use Rattle.readings.specs.Floats.{truncated}
use Rattle.readings.specs.Times.{time}
use Rattle.readings.specs.Records.{ReadsTime}

-- q is m times 2 to the e without its fraction, and so the largest whole number that is not above it
abbrev pub IsWholePart : ℕ → ℕ → ℤ → Type 0
IsWholePart q m e = (q * down e ≤ m * up e) × (m * up e < (q + 1) * down e)

-- m times 2 to the e is 2 to the 63, or more than that
abbrev pub AtEnd : ℕ → ℤ → Type 0
AtEnd m e = m * up e ≡ 2 ^ 63 * down e

abbrev pub PastEnd : ℕ → ℤ → Type 0
PastEnd m e = 2 ^ 63 * down e < m * up e

-- Each float between the ends -2^63 and 2^63 reads as its whole part, which keeps its sign. The lower end reads as itself, the upper
-- end as the number below it. A float past the ends, and what is no number, is refused with 18.
pub record FloatsReadAsWholeParts : Type 0 where
  pub whole_part : (s : Bool) (m : ℕ) (e : ℤ) (q : ℕ) → IsWholePart q m e → q < 2 ^ 63 → truncated (fin s m e) ≡ Ok (cond s (neg_ℤ (pos q)) (pos q))
  pub lower_end : (m : ℕ) (e : ℤ) → AtEnd m e → truncated (fin true m e) ≡ Ok (neg_ℤ (pos (2 ^ 63)))
  pub upper_end : (m : ℕ) (e : ℤ) → AtEnd m e → truncated (fin false m e) ≡ Ok (pos (2 ^ 63 - 1))
  pub past : (s : Bool) (m : ℕ) (e : ℤ) → PastEnd m e → truncated (fin s m e) ≡ Err (refused OutOfRange)
  pub infinite : (s : Bool) → truncated (inf s) ≡ Err (refused OutOfRange)
  pub no_number : truncated nan ≡ Err (refused OutOfRange)

-- whatever the type and the bytes of a value, `time` reads its record
abbrev pub TimesReadBack : Type 0
TimesReadBack = (t : MysqlType) (bs : List ℕ) → AllByRecursion (λ b. b < 256) bs → ReadsTime t bs (time t bs)
