-- The words of a line.
use Rattle.std.specs.Prelude.{◌≡◌, ◌≢◌, ℕ, List, ◌∷◌, ◌++◌, All, Some, None, Option}
use Rattle.std.specs.Borrow.{Bor}
use Rattle.recorded.specs.declared.words.Words.{Words}

abbrev pub text_of : Option (Bor (List ℕ)) → Option (List ℕ)
text_of None = None
text_of (Some t) = Some t.now

-- what is left of a line
abbrev pub left : Words → Option (List ℕ)
left w = text_of w.rest

-- a word is cut off: it has no space, and what is left comes after one
abbrev pub CutFrom : List ℕ → (word : List ℕ) → Option (List ℕ) → Type 0
CutFrom line word None = line ≡ word
CutFrom line word (Some rest) = line ≡ word ++ 32 ∷ rest

pub record Cuts (before : Option (List ℕ)) (word : List ℕ) (after : Option (List ℕ)) : Type 0 where
  pub line : List ℕ
  pub was : before ≡ Some line
  pub cut : CutFrom line word after
  pub no_space : All (λ c. c ≢ 32) word
