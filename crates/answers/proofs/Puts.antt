-- Words that are put behind others.
use Rattle.std.proofs.Common.{◌≡◌, ℕ, List, [], ◌++◌, sym, subst}
use Rattle.std.proofs.lemmas.List.{append_assoc, append-nil}
use Rattle.answers.specs.declared.text.Text.{Text}
use Rattle.answers.specs.Texts.{Has, Puts}

pub none : (a : Text) → Puts a a []
none a = record { puts = λ words h. subst (λ (ws : List ℕ). Has a ws) (sym (append-nil words)) h }

pub then : (a b c : Text) (xs ys : List ℕ) → Puts a b xs → Puts b c ys → Puts a c (xs ++ ys)
then a b c xs ys h k = record { puts = λ words w. subst (λ (ws : List ℕ). Has c ws) (append_assoc words xs ys) (k.puts (words ++ xs) (h.puts words w)) }

pub alike : (a b : Text) (xs ys : List ℕ) → xs ≡ ys → Puts a b xs → Puts a b ys
alike a b xs ys e h = subst (λ (ws : List ℕ). Puts a b ws) e h
