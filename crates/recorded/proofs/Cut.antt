-- A line is cut at its first space.
use Rattle.std.proofs.Common.{◌≡◌, ◌≢◌, ℕ, ◌<◌, ◌≤◌, Bool, true, eqb, List, ◌∷◌, ◌++◌, length, get_or, take, Some, None, Option, refl, sym, ap, ◌∙◌, subst, arith}
use Rattle.std.specs.List.{All, position_or_len, before_first, after_first}
use Rattle.std.proofs.lemmas.List.{get_or-take, length-take}
use Rattle.std.proofs.lemmas.List.Elements.{All-from_get_or}
use Rattle.std.proofs.lemmas.List.Sums.{split_at_first, fails_before_first, passes_at_first}
use Rattle.std.proofs.lemmas.Bool.{eqb-true, eq-eqb}
use Rattle.recorded.specs.Lines.{Cuts}

abbrev is_space : ℕ → Bool
is_space b = eqb b 32

module _ (line : List ℕ) where
  abbrev at : ℕ
  at = position_or_len is_space line

  -- what stands before the first space has none
  unspaced : (k : ℕ) → k < at → get_or line k 0 ≢ 32
  unspaced k l e =
      let yes : is_space (get_or line k 0) ≡ true = eq-eqb (get_or line k 0) 32 e in
      let no = fails_before_first is_space line k 0 l in
      cc

  front_unspaced : at ≤ length line → All (λ c. c ≢ 32) (take at line)
  front_unspaced l =
      All-from_get_or (λ c. c ≢ 32) (take at line) 0
      (λ k b. let h : k < at = omega (arith, length-take {A = ℕ}) in subst (λ c. c ≢ 32) (sym (get_or-take at line k 0 h)) (unspaced k h))

  pub cut_some : (before : Option (List ℕ)) (word rest : List ℕ) → before ≡ Some line → at < length line → word ≡ before_first is_space line → rest ≡ after_first is_space line → Cuts before word (Some rest)
  cut_some before word rest was l w r =
      let space : get_or line at 0 ≡ 32 = eqb-true _ 32 (passes_at_first is_space line 0 l) in
      record {
        line = line;
        was = was;
        cut =
            split_at_first is_space line 0 l
            ∙ ap (λ c. before_first is_space line ++ (c ∷ after_first is_space line)) space
            ∙ ap (λ (xs : List ℕ). xs ++ (32 ∷ after_first is_space line)) (sym w)
            ∙ ap (λ (xs : List ℕ). word ++ (32 ∷ xs)) (sym r);
        no_space = subst (λ (xs : List ℕ). All (λ c. c ≢ 32) xs) (sym w) (front_unspaced (omega arith));
      }

  pub cut_none : (before : Option (List ℕ)) → before ≡ Some line → at ≡ length line → Cuts before line None
  cut_none before was e =
      record {
        line = line;
        was = was;
        cut = refl;
        no_space = All-from_get_or (λ c. c ≢ 32) line 0 (λ k l. unspaced k (omega (arith, e)));
      }
