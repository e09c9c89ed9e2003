-- A number at the front of bytes.
-- Assumes nothing.
use Rattle.std.proofs.Common.{◌≡◌, ℕ, ◌+◌, ◌*◌, ◌/◌, ◌%◌, ◌^◌, ◌<◌, ◌≤◌, List, [], ◌∷◌, ◌++◌, length, get_or, take, drop, ap, ◌∙◌, arith}
use Rattle.tape.specs.Format.{two, four}
use Rattle.tape.specs.Steps.{Begins}

pub two_front : (bs : List ℕ) (n : ℕ) (number rest : List ℕ) → ((i : ℕ) → get_or bs i 0 < 256) → 2 ≤ length bs → number ≡ take 2 bs → rest ≡ drop 2 bs
    → n ≡ get_or number 0 0 + get_or number 1 0 * 256 → Begins (λ n. n < 2 ^ 16) two bs n rest
two_front [] n number rest fit l e f g = absurd (omega arith)
two_front (a ∷ []) n number rest fit l e f g = absurd (omega arith)
two_front (a ∷ b ∷ q) n number rest fit l e f g =
    let la : a < 256 = fit 0 in
    let lb : b < 256 = fit 1 in
    let h : n ≡ a + b * 256 = g ∙ ap (λ xs. get_or xs 0 0 + get_or xs 1 0 * 256) e in
    let p : n % 256 ≡ a = omega arith in
    let u : n / 256 ≡ b = omega arith in
    record { fits = omega arith; bytes_are = ap (λ xs. two n ++ xs) f ∙ ap (λ k. k ∷ n / 256 ∷ q) p ∙ ap (λ k. a ∷ k ∷ q) u }

pub four_front : (bs : List ℕ) (n : ℕ) (number rest : List ℕ) → ((i : ℕ) → get_or bs i 0 < 256) → 4 ≤ length bs → number ≡ take 4 bs → rest ≡ drop 4 bs
    → n ≡ get_or number 0 0 + get_or number 1 0 * 256 + get_or number 2 0 * 65536 + get_or number 3 0 * 16777216 → Begins (λ n. n < 2 ^ 32) four bs n rest
four_front [] n number rest fit l e f g = absurd (omega arith)
four_front (a ∷ []) n number rest fit l e f g = absurd (omega arith)
four_front (a ∷ b ∷ []) n number rest fit l e f g = absurd (omega arith)
four_front (a ∷ b ∷ c ∷ []) n number rest fit l e f g = absurd (omega arith)
four_front (a ∷ b ∷ c ∷ d ∷ q) n number rest fit l e f g =
    let la : a < 256 = fit 0 in
    let lb : b < 256 = fit 1 in
    let lc : c < 256 = fit 2 in
    let ld : d < 256 = fit 3 in
    let h : n ≡ a + b * 256 + c * 65536 + d * 16777216 = g ∙ ap (λ xs. get_or xs 0 0 + get_or xs 1 0 * 256 + get_or xs 2 0 * 65536 + get_or xs 3 0 * 16777216) e in
    let p : n % 256 ≡ a = omega arith in
    let u : n / 256 % 256 ≡ b = omega arith in
    let v : n / 65536 % 256 ≡ c = omega arith in
    let w : n / 16777216 ≡ d = omega arith in
    record {
      fits = omega arith;
      bytes_are =
          ap (λ xs. four n ++ xs) f ∙ ap (λ k. k ∷ n / 256 % 256 ∷ n / 65536 % 256 ∷ n / 16777216 ∷ q) p
          ∙ ap (λ k. a ∷ k ∷ n / 65536 % 256 ∷ n / 16777216 ∷ q) u
          ∙ ap (λ k. a ∷ b ∷ k ∷ n / 16777216 ∷ q) v
          ∙ ap (λ k. a ∷ b ∷ c ∷ k ∷ q) w;
    }
