-- When an answer, which has a space before it, is the recorded one.
use Rattle.std.specs.Prelude.{◌≡◌, ℕ, ◌⊎◌, List, ◌∷◌, ◌++◌, codes}

-- the answer begins so, and a figure is lost there
abbrev pub LostAfter : (front answer : List ℕ) → Type 0
LostAfter front answer = (rest : List ℕ) × (answer ≡ front ++ (codes "lost:" ++ rest))

-- the recorded one ends with the word `stop`, and the answer is the same up to there, where it loses a figure
abbrev pub StopsAlike : (recorded answer : List ℕ) → Type 0
StopsAlike recorded answer = (front : List ℕ) × (recorded ≡ front ++ codes "stop") × LostAfter front answer

abbrev pub Same : (recorded answer : List ℕ) → Type 0
Same recorded answer = (words : List ℕ) × (answer ≡ 32 ∷ words) × ((words ≡ recorded) ⊎ StopsAlike recorded words)
