-- Answers that were kept: those to the first calls, and to all where memory did not run out.
use Rattle.std.specs.Prelude.{◌≡◌, ℕ, ◌≤◌, List, [], ◌∷◌, ◌++◌, map, take, length, Ok, Err, vec_items, Result, Vec}
use Rattle.std.specs.declared.alloc.Global.{Global}
use Rattle.std.specs.declared.alloc.AllocError.{AllocError}
use Rattle.play.specs.declared.calls.Call.{Call}
use Rattle.play.specs.declared.calls.Answer.{Answer}
use Rattle.play.specs.Histories.{Said, Entry}
use Rattle.play.specs.Calls.{asked_of, said_by}

-- calls and their answers, one by one; calls that have none are left out
abbrev pub history : List Call → List (Answer (Vec ℕ Global)) → List Entry
history [] answers = []
history (c ∷ cs) [] = []
history (c ∷ cs) (a ∷ rest) = record { asked = asked_of c; said = said_by vec_items a } ∷ history cs rest

pub record Keeps (answers : List (Answer (Vec ℕ Global))) (ended : Result Unit AllocError) (heard : List Entry) : Type 0 where
  pub few : length answers ≤ length heard
  pub first : map (said_by vec_items) answers ≡ take (length answers) (map (λ e. e.said) heard)
  pub all : ended ≡ Ok tt → length answers ≡ length heard

-- a copy says what was said
abbrev pub Copies : Result (Answer (Vec ℕ Global)) AllocError → Said → Type 0
Copies (Ok copy) said = said_by vec_items copy ≡ said
Copies (Err e) said = Unit {0}

-- one more answer is kept, or memory ran out
abbrev pub KeepsOne : Result Unit AllocError → (answers answers' : List (Answer (Vec ℕ Global))) → Said → Type 0
KeepsOne (Ok u) answers answers' said = map (said_by vec_items) answers' ≡ map (said_by vec_items) answers ++ said ∷ []
KeepsOne (Err e) answers answers' said = answers' ≡ answers
