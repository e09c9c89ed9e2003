-- Floats as numbers, by their bits, and what is left of one without its fraction. A float is `nan`, no number, or `inf s`, an
-- infinity, or `fin s m e`: a sign, a significand and a power of two. It is m times 2 to the e then, and negative where s is true.
-- A power may be negative, so `up e` over `down e` stands for 2 to the e.
use Rattle.std.specs.Prelude.{◌≡◌, ℕ, ◌+◌, ◌-◌, ◌*◌, ◌/◌, ◌%◌, ◌^◌, min, Bool, true, false, cond, ℤ, pos, neg_ℤ, ◌-ℤ◌, Ok, Err, Result, ◌==◌, nat_le}
use Rattle.std.specs.Float.{Float, nan, inf, fin}
use Rattle.std.specs.Float.Ieee.{up, down}
use Rattle.mysql.specs.declared.fault.Fault.{Fault}
use Rattle.mysql.specs.declared.fault.Refusal.TheVariants.{OutOfRange}
use Rattle.mysql.specs.Faults.{refused}

-- An interchange format of IEEE 754 is a sign bit, then an exponent field of w bits, then a fraction field of p bits. With all
-- bits of the exponent field set it is an infinity, or no number where there is a fraction. With none set it is subnormal: its
-- significand is the fraction field, and its power that of an exponent field of 1. Any other significand has a leading 1.
abbrev pub bias : ℕ → ℕ
bias w = 2 ^ (w - 1) - 1

abbrev pub by_fields : (w p : ℕ) → Bool → (exponent fraction : ℕ) → Float
by_fields w p s x t =
    cond (x == 2 ^ w - 1) (cond (t == 0) (inf s) nan)
    (cond (x == 0) (fin s t (pos 1 -ℤ pos (bias w + p))) (fin s (2 ^ p + t) (pos x -ℤ pos (bias w + p))))

abbrev pub by_pattern : (w p : ℕ) → ℕ → Float
by_pattern w p b = by_fields w p (nat_le (2 ^ (w + p)) b) (b % 2 ^ (w + p) / 2 ^ p) (b % 2 ^ p)

-- binary32 and binary64
abbrev pub single : ℕ → Float
single = by_pattern 8 23

abbrev pub double : ℕ → Float
double = by_pattern 11 52

-- x is the number y, perhaps with another significand and power, as 6 times 2 is 3 times 4
abbrev pub IsNumber : Float → Float → Type 0
IsNumber nan nan = Unit {0}
IsNumber nan (inf t) = ⊥
IsNumber nan (fin t n k) = ⊥
IsNumber (inf s) nan = ⊥
IsNumber (inf s) (inf t) = s ≡ t
IsNumber (inf s) (fin t n k) = ⊥
IsNumber (fin s m e) nan = ⊥
IsNumber (fin s m e) (inf t) = ⊥
IsNumber (fin s m e) (fin t n k) = (s ≡ t) × (m * up e * down k ≡ n * up k * down e)

-- a magnitude without its fraction, under its sign; the one that lies past the end, 2 to the 63, gives the end
abbrev pub signed : Bool → ℕ → ℤ
signed true q = neg_ℤ (pos q)
signed false q = pos (min q (2 ^ 63 - 1))

-- a number from -2^63 to 2^63 without its fraction; any other, and what is none, is refusal 18
abbrev pub truncated : Float → Result ℤ Fault
truncated nan = Err (refused OutOfRange)
truncated (inf s) = Err (refused OutOfRange)
truncated (fin s m e) = cond (nat_le (m * up e) (2 ^ 63 * down e)) (Ok (signed s (m * up e / down e))) (Err (refused OutOfRange))
