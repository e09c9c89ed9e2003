-- Two tests on numbers that the rules are written with.
use Rattle.std.specs.Prelude.{ℕ, Bool, false, ◌&&◌, ◌||◌, List, [], ◌∷◌, ◌==◌, nat_le}

-- n lies between low and high, both counted
abbrev pub between : ℕ → ℕ → ℕ → Bool
between low high n = nat_le low n && nat_le n high

-- n is one of the numbers listed
abbrev pub among : List ℕ → ℕ → Bool
among [] n = false
among (x ∷ xs) n = n == x || among xs n
