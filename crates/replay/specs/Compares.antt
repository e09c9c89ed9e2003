-- What a line is told to be, where results are opened over an arena of some length.
use Rattle.std.specs.Prelude.{◌≡◌, ℕ, List, [], ◌∷◌, ◌++◌, codes}
use Rattle.recorded.specs.declared.question.Kind.{Kind}
use Rattle.recorded.specs.declared.question.Question.{Question}
use Rattle.recorded.specs.Kinds.{kind_of}
use Rattle.recorded.specs.Grammar.{LineSpells}
use Rattle.answers.specs.Answers.{Answered}
use Rattle.replay.specs.declared.lines.Compared.{Compared}
use Rattle.replay.specs.declared.lines.Compared.TheVariants.{Comment, Same, Different}
use Rattle.replay.specs.Same as same

-- the line spells a question of this kind, and what the port answers to it is what is recorded
abbrev pub Agrees : (arena : ℕ) → (text : List ℕ) → Kind → Type 0
Agrees arena text kind = (q : Question) × (recorded answer : List ℕ) × LineSpells text q recorded × (kind_of q ≡ kind) × Answered arena q answer × same.Same recorded answer

-- the line spells a question of this kind, to which the port answers so
abbrev pub Answers : (arena : ℕ) → (text : List ℕ) → Kind → Type 0
Answers arena text kind = (q : Question) × (recorded answer : List ℕ) × LineSpells text q recorded × (kind_of q ≡ kind) × Answered arena q answer

abbrev pub Told : (arena : ℕ) → (line : List ℕ) → Compared → Type 0
Told arena line Comment = (rest : List ℕ) × (line ≡ codes "#" ++ rest)
Told arena line (Same kind) = (text : List ℕ) × (line ≡ text ++ 10 ∷ []) × Agrees arena text kind
Told arena line (Different kind text answer) = (line ≡ text.now ++ 10 ∷ []) × Answers arena text.now kind
