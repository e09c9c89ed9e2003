-- What the readings come to, in terms of what was written.
use Rattle.std.specs.Prelude.{◌≡◌, ℕ, ◌^◌, ◌<◌, ◌≤◌, true, ◌⊎◌, List, [], ◌∷◌, ◌++◌, ℤ, Ok}
use Rattle.std.specs.Fmt.{signed_decimal}
use Rattle.numeric.specs.Utf8.{utf8}
use Rattle.numeric.specs.Decimals.{dot, dots, decimal}
use Rattle.numeric.specs.Targets.{in_range}

-- nothing, or a dot and any text without another
abbrev pub Fraction : List ℕ → Type 0
Fraction f = (f ≡ []) ⊎ ((t : List ℕ) × (f ≡ dot ∷ t) × (utf8 t ≡ true) × (dots t ≡ 0))

-- A number of the target's range, printed in decimal as `{}` does (`signed_decimal`), with any fraction after it, reads back as that number.
abbrev pub PrintedReadsBack : Type 0
PrintedReadsBack = (half : ℕ) (z : ℤ) (f : List ℕ) → 0 < half → half ≤ 2 ^ 63 → in_range half z ≡ Ok z → Fraction f → decimal half (signed_decimal z ++ f) ≡ Ok z
