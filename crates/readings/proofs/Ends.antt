-- What the two tests of a float against the ends -2^63 and 2^63 tell of it.
-- Assumes nothing.
use Rattle.std.proofs.Common.{◌≡◌, ℕ, suc, ◌*◌, ◌/◌, ◌^◌, ◌<◌, ◌≤◌, true, false, leb, ℤ, pos, negsuc, Ok, Err, Result, sym, refl, ◌∙◌, true≢false, mul_comm, mul-one, arith, lit<, pow_pos}
use native.Mathlib.Nat.{min-eq_left, div-le_of_le-mul}
use lib.Ieee.{Float, nan, inf, fin, up, down, le, lt, eq, to_signed, of_bits, of_fields, odd, binary32, binary64}
use lib.Count.{count_trailing_zeros}
use Rattle.std.proofs.lemmas.Bool.{leb-true}
use Rattle.std.proofs.lemmas.Bool.Decides.{nat_tests}
use Rattle.mysql.specs.declared.fault.Fault.{Fault}
use Rattle.mysql.specs.declared.fault.Refusal.TheVariants.{OutOfRange}
use Rattle.mysql.specs.Faults.{refused}
use Rattle.readings.specs.Floats.{truncated}

abbrev pub high : Float
high = fin false 1 (pos 63)

abbrev pub low : Float
low = fin true 1 (pos 63)

-- the two constants of each format are the ends
pub high64 : of_bits binary64 4890909195324358656 ≡ high
unfolding of_bits of_fields odd count_trailing_zeros
high64 = refl

pub low64 : of_bits binary64 14114281232179134464 ≡ low
unfolding of_bits of_fields odd count_trailing_zeros
low64 = refl

pub high32 : of_bits binary32 1593835520 ≡ high
unfolding of_bits of_fields odd count_trailing_zeros
high32 = refl

pub low32 : of_bits binary32 3741319168 ≡ low
unfolding of_bits of_fields odd count_trailing_zeros
low32 = refl

pub down_pos : (e : ℤ) → 0 < down e
down_pos (pos k) = lit< tt
down_pos (negsuc k) = pow_pos (suc k)

below_high : (m : ℕ) (e : ℤ) → le (fin false m e) high ≡ leb (m * up e) (2 ^ 63 * down e)
unfolding le lt eq
below_high m e = rw mul-one (grind (arith, nat_tests))

above_low : (m : ℕ) (e : ℤ) → le low (fin true m e) ≡ leb (m * up e) (2 ^ 63 * down e)
unfolding le lt eq
above_low m e = rw mul-one (grind (arith, nat_tests))

negative_below : (m : ℕ) (e : ℤ) → le (fin true m e) high ≡ true
unfolding le lt eq
negative_below m e = let p : 0 < down e = down_pos e in grind (arith, nat_tests)

positive_above : (m : ℕ) (e : ℤ) → le low (fin false m e) ≡ true
unfolding le lt eq
positive_above m e = let p : 0 < down e = down_pos e in grind (arith, nat_tests)

-- the quotient is no more than 2^63
cut : (a d : ℕ) → leb a (2 ^ 63 * d) ≡ true → a / d ≤ 2 ^ 63
cut a d h = let l : a ≤ 2 ^ 63 * d = leb-true a (2 ^ 63 * d) h in div-le_of_le-mul d (rw (mul_comm d (2 ^ 63)) l)

pub inside : (x : Float) → le low x ≡ true → le x high ≡ true → ◌≡◌ {A = Result ℤ Fault} (Ok (to_signed 63 x)) (truncated x)
unfolding le lt eq to_signed
inside nan p q = absurd (true≢false (sym p))
inside (inf true) p q = absurd (true≢false (sym p))
inside (inf false) p q = absurd (true≢false (sym q))
inside (fin true m e) p q =
    let h = sym (above_low m e) ∙ p in
    let l = cut (m * up e) (down e) h in
    rw (h, min-eq_left l)
inside (fin false m e) p q =
    let h = sym (below_high m e) ∙ q in
    rw h

pub too_low : (x : Float) → le low x ≡ false → truncated x ≡ Err (refused OutOfRange)
unfolding le lt eq
too_low nan p = refl
too_low (inf true) p = refl
too_low (inf false) p = refl
too_low (fin true m e) p = let h = sym (above_low m e) ∙ p in rw h
too_low (fin false m e) p = absurd (true≢false (sym (positive_above m e) ∙ p))

pub too_high : (x : Float) → le x high ≡ false → truncated x ≡ Err (refused OutOfRange)
unfolding le lt eq
too_high nan p = refl
too_high (inf true) p = refl
too_high (inf false) p = refl
too_high (fin true m e) p = absurd (true≢false (sym (negative_below m e) ∙ p))
too_high (fin false m e) p = let h = sym (below_high m e) ∙ p in rw h
