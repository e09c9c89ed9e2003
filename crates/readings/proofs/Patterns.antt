-- A float's bit pattern stands for the number that its fields say: the library's decoding, which writes each number in lowest terms,
-- gives the same number as the fields of IEEE 754. And floats that are one number are one without their fraction.
-- Assumes nothing.
use Rattle.std.proofs.Common.{◌≡◌, ℕ, zero, suc, ◌+◌, ◌-◌, ◌*◌, ◌/◌, ◌%◌, ◌^◌, ◌<◌, ◌≤◌, Bool, true, false, cond, eqb, leb, ltb, ℤ, pos, negsuc, ◌-ℤ◌, sym, refl, ap, ◌∙◌, subst, mul-le-mul_right, mul_assoc, mul_comm, mul-one, le_of_mul-le-mul_right, arith, pow_pos}
use native.Mathlib.Nat.{mul-div-mul_right, mul_right_comm, eq_of_mul-eq-mul_right}
use lib.Pow.{pow-add}
use lib.Ieee.{Float, nan, inf, fin, binary32, binary64, up, down, odd, of_fields, of_bits}
use lib.Ieee.Exact.{HasValue, odd_sign}
use Rattle.std.proofs.lemmas.Bool.{ltb-true, ltb-false}
use Rattle.std.proofs.lemmas.Bool.Decides.{nat_tests}
use Rattle.std.proofs.lemmas.Bool.{ne_eqb}
use Rattle.readings.proofs.Ends.{down_pos}
use Rattle.readings.specs.Floats.{by_fields, single, double, IsNumber, truncated}

-- two fractions of one size have one whole part, and pass or fail a limit together
module _ (p d a c : ℕ) (hd : 0 < d) (hc : 0 < c) (same : p * c ≡ a * d) where
  quotient : p / d ≡ a / c
  quotient =
      sym (mul-div-mul_right p d hc) ∙ ap (λ (x : ℕ). x / (d * c)) same
      ∙ ap (λ (x : ℕ). a * d / x) (mul_comm d c) ∙ mul-div-mul_right a c hd

  over : (k : ℕ) → p ≤ k * d → a ≤ k * c
  over k h =
      le_of_mul-le-mul_right (subst (λ (x : ℕ). x ≤ k * c * d) same
      (subst (λ (x : ℕ). p * c ≤ x) (mul_assoc k d c ∙ ap (λ (x : ℕ). k * x) (mul_comm d c) ∙ sym (mul_assoc k c d)) (mul-le-mul_right c h))) hd

limits : (p d a c : ℕ) → 0 < d → 0 < c → p * c ≡ a * d → (k : ℕ) → leb p (k * d) ≡ leb a (k * c)
limits p d a c hd hc same k =
    let f = over p d a c hd hc same k in
    let g = over a c p d hc hd (sym same) k in
    grind (arith, nat_tests)

pub same_part : (x y : Float) → IsNumber x y → truncated x ≡ truncated y
same_part nan nan h = refl
same_part nan (inf t) h = absurd h
same_part nan (fin t n k) h = absurd h
same_part (inf s) nan h = absurd h
same_part (inf s) (inf t) h = refl
same_part (inf s) (fin t n k) h = absurd h
same_part (fin s m e) nan h = absurd h
same_part (fin s m e) (inf t) h = absurd h
same_part (fin s m e) (fin t n k) h =
    rw (limits (m * up e) (down e) (n * up k) (down k) (down_pos e) (down_pos k) h.1 (2 ^ 63), quotient (m * up e) (down e) (n * up k) (down k) (down_pos e) (down_pos k) h.1, h.0)

-- the power of an exponent field of x + 1, of which the smallest power is -l: 2 to the x, over 2 to the l
power : (x l : ℕ) (b : Bool) → ltb (suc x) (suc l) ≡ b
    → 2 ^ x * down (cond b (negsuc (suc l - suc (suc x))) (pos (suc x - suc l))) ≡ up (cond b (negsuc (suc l - suc (suc x))) (pos (suc x - suc l))) * 2 ^ l
power x l true h =
    let n : suc x < suc l = ltb-true (suc x) (suc l) h in
    let k : x + suc (suc l - suc (suc x)) ≡ l = omega arith in
    sym (pow-add 2 x (suc (suc l - suc (suc x)))) ∙ ap (λ (n : ℕ). 2 ^ n) k ∙ sym (mul_comm 1 (2 ^ l) ∙ mul-one (2 ^ l))
power x l false h =
    let n : suc l ≤ suc x = ltb-false (suc x) (suc l) h in
    let k : x ≡ suc x - suc l + l = omega arith in
    mul-one (2 ^ x) ∙ ap (λ (n : ℕ). 2 ^ n) k ∙ pow-add 2 (suc x - suc l) l

number : (x : Float) (s : Bool) (n : ℕ) (k : ℤ) (a c : ℕ) → 0 < c → HasValue x s a c → a * down k ≡ n * up k * c → IsNumber x (fin s n k)
number nan s n k a c p h e = absurd h
number (inf t) s n k a c p h e = absurd h
number (fin t m d) s n k a c p h e = (
  h.0,
  eq_of_mul-eq-mul_right c p (m * up d * down k) (n * up k * down d)
      (mul_right_comm (m * up d) (down k) c ∙ ap (λ (x : ℕ). x * down k) h.1 ∙ mul_right_comm a (down d) (down k)
      ∙ ap (λ (x : ℕ). x * down d) e ∙ mul_right_comm (n * up k) c (down d)),
)

-- a full exponent field
full : (s b : Bool) → IsNumber (cond b (inf s) nan) (cond b (inf s) nan)
full s true = refl
full s false = tt

module _ (digits l : ℕ) (s : Bool) (m x t : ℕ) where
  normal : (b z : Bool) → z ≡ false → (subnormal : Float)
      → IsNumber (cond b (cond (eqb t 0) (inf s) nan) (odd digits s m x l))
      (cond b (cond (eqb t 0) (inf s) nan) (cond z subnormal (fin s m (pos (suc x) -ℤ pos (suc l)))))
  normal true z h y = full s (eqb t 0)
  normal false z h y =
      let k = pos (suc x) -ℤ pos (suc l) in
      rw h (number (odd digits s m x l) s m k (m * 2 ^ x) (2 ^ l) (pow_pos l) (odd_sign digits s m x l)
      (mul_assoc m (2 ^ x) (down k) ∙ ap (λ (n : ℕ). m * n) (power x l (ltb (suc x) (suc l)) refl) ∙ sym (mul_assoc m (up k) (2 ^ l))))

fields_32 : (s : Bool) (x t : ℕ) → IsNumber (of_fields binary32 s x t) (by_fields 8 23 s x t)
unfolding of_fields
fields_32 s zero t = number (odd 24 s t 0 149) s t (negsuc 148) (t * 1) (2 ^ 149) (pow_pos 149) (odd_sign 24 s t 0 149) refl
fields_32 s (suc x) t = normal 24 149 s (2 ^ 23 + t) x t (eqb (suc x) 255) (eqb (suc x) 0) (ne_eqb (suc x) 0 (λ e. omega arith)) _

fields_64 : (s : Bool) (x t : ℕ) → IsNumber (of_fields binary64 s x t) (by_fields 11 52 s x t)
unfolding of_fields
fields_64 s zero t = number (odd 53 s t 0 1074) s t (negsuc 1073) (t * 1) (2 ^ 1074) (pow_pos 1074) (odd_sign 53 s t 0 1074) refl
fields_64 s (suc x) t = normal 53 1074 s (2 ^ 52 + t) x t (eqb (suc x) 2047) (eqb (suc x) 0) (ne_eqb (suc x) 0 (λ e. omega arith)) _

pub by_pattern_32 : (b : ℕ) → IsNumber (of_bits binary32 b) (single b)
unfolding of_bits
by_pattern_32 b = fields_32 (leb (2 ^ 31) b) (b % 2 ^ 31 / 2 ^ 23) (b % 2 ^ 23)

pub by_pattern_64 : (b : ℕ) → IsNumber (of_bits binary64 b) (double b)
unfolding of_bits
by_pattern_64 b = fields_64 (leb (2 ^ 63) b) (b % 2 ^ 63 / 2 ^ 52) (b % 2 ^ 52)
