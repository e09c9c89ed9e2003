-- Places and fields, gone through one after the other.
-- Assumes nothing.
use Rattle.std.proofs.Common.{◌≡◌, ℕ, zero, suc, ◌+◌, ◌-◌, ◌<◌, ◌≤◌, min, Bool, true, false, ◌&&◌, leb, List, [], ◌∷◌, Some, refl, length, get_or, drop, sym, ap, ◌∙◌, ⊎_elim, arith}
use Rattle.std.proofs.lemmas.List.{drop_all}
use Rattle.std.proofs.lemmas.Bool.{cases_lt, and_parts, le-leb, leb-true}
use Rattle.host.specs.declared.records.BindRecord.{BindRecord}
use Rattle.std.specs.List.{slice_get, IsAllAdjacentAnswer}
use Rattle.host.specs.Calls.{no_bind, place_end, in_order, all_end_by}

-- an offset past the end is as good as the end
pub drop_min : {X : Type 0} (xs : List X) (offset n : ℕ) → n ≡ min offset (length xs) → drop n xs ≡ drop offset xs
drop_min xs offset n e =
    ⊎_elim
    (λ (l : offset < length xs). let k : n ≡ offset = omega arith in ap (λ m. drop m xs) k)
    (λ (l : length xs ≤ offset). drop_all n xs (omega arith) ∙ sym (drop_all offset xs l))
    (cases_lt offset (length xs))

-- places in order all end by the end of an arena where the last one does
pub last_ends : (arena from n : ℕ) (bs : List BindRecord) (b : BindRecord) → in_order from bs ≡ true → n ≡ length bs - 1 → slice_get bs n ≡ Some b → leb (place_end b) arena ≡ all_end_by arena bs
last_ends arena from n [] b o l e = cc
last_ends arena from zero (x ∷ []) b o l e = let q : x ≡ b = cc in ap (λ (y : BindRecord). leb (place_end y) arena) (sym q) ∙ and_true (leb (place_end x) arena)
  where
    and_true : (z : Bool) → z ≡ (z && true)
    and_true true = refl
    and_true false = refl
last_ends arena from (suc n) (x ∷ []) b o l e = absurd (omega arith)
last_ends arena from zero (x ∷ y ∷ r) b o l e = absurd (omega arith)
last_ends arena from (suc n) (x ∷ y ∷ r) b o l e = last_ends arena (place_end x) n (y ∷ r) b later (omega arith) e ∙ more (all_end_by arena (y ∷ r)) refl
  where
    later : in_order (place_end x) (y ∷ r) ≡ true
    later = (and_parts (leb from x.start) (in_order (place_end x) (y ∷ r)) o).1

    more : (z : Bool) → all_end_by arena (y ∷ r) ≡ z → z ≡ (leb (place_end x) arena && z)
    more true q =
        let s = leb-true (place_end x) y.start (and_parts (leb (place_end x) y.start) (in_order (place_end y) r) later).0 in
        let t = leb-true (place_end y) arena (and_parts (leb (place_end y) arena) (all_end_by arena r) q).0 in
        ap (λ (z : Bool). z && true) (sym (le-leb (place_end x) arena (omega arith)))
    more false q = and_false (leb (place_end x) arena)
      where
        and_false : (z : Bool) → false ≡ (z && false)
        and_false true = refl
        and_false false = refl

-- whether each place begins where the one before it ends or after
abbrev pub begins_after : BindRecord → BindRecord → Bool
begins_after b c = leb (place_end b) c.start

module _ (d : BindRecord) where
  -- how the places at an index and after it are compared
  abbrev at_and_after : List BindRecord → ℕ → Bool
  at_and_after bs k = begins_after (get_or bs k d) (get_or bs (k + 1) d)

  one_on : (b : BindRecord) (bs : List BindRecord) (k : ℕ) → at_and_after (b ∷ bs) (suc k) ≡ at_and_after bs k
  one_on b bs k = let e : suc k + 1 ≡ suc (k + 1) = omega arith in ap (λ n. begins_after (get_or bs k d) (get_or (b ∷ bs) n d)) e

  all_begin : (b : BindRecord) (bs : List BindRecord) → ((k : ℕ) → k + 1 < length (b ∷ bs) → true ≡ at_and_after (b ∷ bs) k) → in_order (place_end b) bs ≡ true
  all_begin b [] h = refl
  all_begin b (c ∷ cs) h = ap (λ x. x && in_order (place_end c) cs) (sym (h 0 (omega arith))) ∙ all_begin c cs (λ k l. h (suc k) (omega arith) ∙ one_on b (c ∷ cs) k)

  one_early : (b : BindRecord) (bs : List BindRecord) (k : ℕ) → k + 1 < length (b ∷ bs) → false ≡ at_and_after (b ∷ bs) k → in_order (place_end b) bs ≡ false
  one_early b [] k l h = absurd (omega arith)
  one_early b (c ∷ cs) zero l h = ap (λ x. x && in_order (place_end c) cs) (sym h)
  one_early b (c ∷ cs) (suc k) l h = ap (λ x. begins_after b c && x) (one_early c cs k (omega arith) (h ∙ one_on b (c ∷ cs) k)) ∙ and_false (begins_after b c)
    where
      and_false : (x : Bool) → (x && false) ≡ false
      and_false true = refl
      and_false false = refl

-- no condition falls on the first place
first_free : (b : BindRecord) (bs : List BindRecord) → in_order 0 (b ∷ bs) ≡ in_order (place_end b) bs
first_free b bs = ap (λ x. x && in_order (place_end b) bs) (le-leb 0 b.start (omega arith))

-- places of which each is compared with the one before it
pub order_is : (bs : List BindRecord) (r : Bool) → IsAllAdjacentAnswer (λ x y b. b ≡ begins_after x y) bs r → r ≡ in_order 0 bs
order_is [] true h = refl
order_is [] false h = let l = h.1 in absurd (omega arith)
order_is (b ∷ bs) true h = sym (first_free b bs ∙ all_begin no_bind b bs (λ k l. h k no_bind l))
order_is (b ∷ bs) false h = sym (first_free b bs ∙ one_early no_bind b bs h.0 h.1 (h.2 no_bind))
