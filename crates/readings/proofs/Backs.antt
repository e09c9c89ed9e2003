-- The law over floats.
-- Assumes nothing.
use Rattle.std.proofs.Common.{◌≡◌, ℕ, ◌+◌, ◌-◌, ◌*◌, ◌/◌, ◌^◌, ◌<◌, ◌≤◌, Bool, true, false, cond, ℤ, pos, neg_ℤ, refl, ap, ◌∙◌, mul-le-mul_right, mul-div_cancel, arith}
use native.Mathlib.Nat.{min-eq_left, div-eq_of_lt-le, le_of_eq}
use Rattle.std.proofs.lemmas.Bool.{le-leb, lt-leb}
use lib.Ieee.{up, down}
use Rattle.readings.proofs.Ends.{down_pos}
use Rattle.readings.specs.Floats.{signed}
use Rattle.readings.specs.Laws.{IsWholePart, AtEnd, FloatsReadAsWholeParts}

-- a magnitude whose whole part is below the end's is below the end
below : (m : ℕ) (e : ℤ) (q : ℕ) → IsWholePart q m e → q < 2 ^ 63 → m * up e ≤ 2 ^ 63 * down e
below m e q w l =
    let k : q + 1 ≤ 2 ^ 63 = omega arith in
    let a = w.1 in
    let b = mul-le-mul_right (down e) k in omega arith

at_end : (m : ℕ) (e : ℤ) → AtEnd m e → m * up e / down e ≡ 2 ^ 63
at_end m e h = ap (λ (n : ℕ). n / down e) h ∙ mul-div_cancel (2 ^ 63) (down_pos e)

kept : (s : Bool) (q : ℕ) → q ≤ 2 ^ 63 - 1 → signed s q ≡ cond s (neg_ℤ (pos q)) (pos q)
kept true q h = refl
kept false q h = ap pos (min-eq_left h)

pub parts : FloatsReadAsWholeParts
parts = record {
  whole_part = λ s m e q w l.
      let inside = le-leb (m * up e) (2 ^ 63 * down e) (below m e q w l) in
      let part = div-eq_of_lt-le (down e) w.0 w.1 in
      let signed = kept s q (omega arith) in
      rw (inside, part, signed) refl;
  lower_end = λ m e h. rw (le-leb (m * up e) (2 ^ 63 * down e) (le_of_eq h), at_end m e h) refl;
  upper_end = λ m e h. rw (le-leb (m * up e) (2 ^ 63 * down e) (le_of_eq h), at_end m e h) refl;
  past = λ s m e h. rw (lt-leb (m * up e) (2 ^ 63 * down e) h) refl;
  infinite = λ s. refl;
  no_number = refl;
}
