-- Words of what is said, one thing more.
use Rattle.std.proofs.Common.{◌≡◌, ℕ, List, [], ◌∷◌, ◌++◌, ◌/◌, ◌%◌, slice_index, Result, Ok, Err, refl, sym, ap, ◌∙◌, subst}
use Rattle.std.specs.Result.{OnOk, IsOk}
use Rattle.std.proofs.lemmas.List.{append_assoc, append-nil}
use Rattle.walk.specs.Walks.{Said}
use Rattle.answers.specs.declared.text.Text.{Text}
use Rattle.answers.specs.Texts.{Has, Puts}
use Rattle.answers.specs.Events.{said_word, said_words}
use Rattle.hex.specs.Hex.{encode_with}

said_snoc : (xs : List Said) (x : Said) → said_words (xs ++ x ∷ []) ≡ said_words xs ++ said_word x
said_snoc [] x = append-nil (said_word x)
said_snoc (y ∷ ys) x = ap (λ (ws : List ℕ). said_word y ++ ws) (said_snoc ys x) ∙ sym (append_assoc (said_word y) (said_words ys) (said_word x))

-- where a word was put, one thing more is told
pub told : (old new : Text) (x : Said) → Puts old new (said_word x) → (xs : List Said) → Has old (said_words xs) → Has new (said_words (xs ++ x ∷ []))
told old new x p xs h = subst (λ (ws : List ℕ). Has new ws) (sym (said_snoc xs x)) (p.puts (said_words xs) h)

-- digits of a byte more
pub encode_snoc : (t xs : List ℕ) (b : ℕ) → encode_with t (xs ++ b ∷ []) ≡ encode_with t xs ++ encode_with t (b ∷ [])
unfolding encode_with
encode_snoc t [] b = refl
encode_snoc t (x ∷ xs) b = ap (λ (ws : List ℕ). slice_index t (x / 16) ∷ slice_index t (x % 16) ∷ ws) (encode_snoc t xs b)

pub encode_nil : (t : List ℕ) → [] ≡ encode_with t []
unfolding encode_with
encode_nil t = refl

-- what holds of a granted call
pub on_ok : {X E P : Type 0} (r : Result X E) → IsOk r → OnOk r P → P
on_ok (Ok x) i p = p
on_ok (Err e) i p = cc
