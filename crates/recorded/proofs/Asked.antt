-- A question that is refused because of its first word, or of its second.
use Rattle.std.proofs.Common.{◌≡◌, ℕ, ◌≤◌, List, ◌∷◌, Option, Result, Err, MatchResult, inl, inr, sym, subst, arith, vec_capacity}
use Rattle.recorded.specs.declared.buffers.Buffers.{Buffers}
use Rattle.recorded.specs.declared.question.Kind.{Kind}
use Rattle.recorded.specs.declared.question.Question.{Question}
use Rattle.recorded.specs.declared.unread.Unread.{Unread}
use Rattle.recorded.specs.Grammar.{Field, Shape, shape_of, shapes, Next}
use Rattle.recorded.specs.Refused.{Wrong, Refused}
use Rattle.recorded.specs.Rooms.{room}

module _ (P : Question → Type 0) (kind : Kind) (n : ℕ) (before after : Option (List ℕ)) (e : Unread) (r : Result Question Unread) (p : (y : Unread) × (r ≡ Err y) × (y ≡ e)) where
  pub first_wrong : (s : Shape) (ss : List Shape) → shapes kind ≡ s ∷ ss → Wrong n before s e after → MatchResult r P (λ e. Refused n before (shapes kind) e after)
  first_wrong s ss k w = rw (p.1, p.2) (subst (λ (xs : List Shape). Refused n before xs e after) (sym k) (inl w))

  pub second_wrong : (s t : Shape) (ss : List Shape) (f : Field) (middle : Option (List ℕ)) → shapes kind ≡ s ∷ t ∷ ss → (shape_of f ≡ s) × Next before f middle → Wrong n middle t e after
      → MatchResult r P (λ e. Refused n before (shapes kind) e after)
  second_wrong s t ss f middle k h w = rw (p.1, p.2) (subst (λ (xs : List Shape). Refused n before xs e after) (sym k) (inr (f, middle, h.0, h.1, inl w)))

pub room_bytes : (b : Buffers) → room b ≤ vec_capacity b.bytes
room_bytes b = omega arith

pub room_wanted : (b : Buffers) → room b ≤ vec_capacity b.wanted
room_wanted b = omega arith
