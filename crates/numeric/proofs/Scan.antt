-- What is left to read of a number's text at a byte, with n read so far.
-- Assumes nothing.
use Rattle.std.proofs.Common.{◌≡◌, ℕ, zero, suc, ◌+◌, ◌-◌, ◌*◌, ◌<◌, ◌≤◌, Bool, true, false, cond, ◌&&◌, eqb, ltb, leb, ◌⊎◌, List, [], ◌∷◌, length, get_or, take, drop, ℤ, pos, neg_ℤ, Some, None, Ok, Err, Option, sym, refl, ap, ◌∙◌, subst, inl, inr, arith}
use Rattle.std.proofs.lemmas.List.{drop_more, drop_all, take_rest}
use Rattle.std.proofs.lemmas.Bool.{le-leb, lt-leb, lt-ltb, eq-eqb, ne_eqb}
use Rattle.std.proofs.lemmas.Bool.Decides.{nat_tests, leb_tells, eqb_tells}
use Rattle.std.specs.List.{sum_by}
use Rattle.std.proofs.lemmas.List.Recursion.{is_sum_by}
use Rattle.mysql.specs.Faults.{refused}
use Rattle.mysql.specs.declared.fault.Refusal.TheVariants.{InvalidInteger}
use Rattle.numeric.specs.Decimals.{dots, before_dot, digit, digits, numeral, value_from, natural, integer_text, positive, negative}
use Rattle.numeric.specs.Targets.{in_range}

abbrev pub after : ℕ → ℕ → List ℕ → Option ℕ
after limit n bs = cond (digits (before_dot bs) && leb (value_from n (before_dot bs)) limit) (Some (value_from n (before_dot bs))) None

at_end : (limit n : ℕ) → n ≤ limit → after limit n [] ≡ Some n
at_end limit n h = rw (le-leb n limit h)

at_dot : (limit n b : ℕ) (bs : List ℕ) → b ≡ 46 → n ≤ limit → after limit n (b ∷ bs) ≡ Some n
at_dot limit n b bs e h = rw (eq-eqb b 46 e, le-leb n limit h)

at_digit : (limit n b : ℕ) (bs : List ℕ) → 48 ≤ b → b ≤ 57 → after limit n (b ∷ bs) ≡ after limit (10 * n + (b - 48)) bs
at_digit limit n b bs h k = let ne : b ≡ 46 → ⊥ = λ e. omega arith in rw (ne_eqb b 46 ne, le-leb 48 b h, le-leb b 57 k)

-- what is read only grows
grows : (bs : List ℕ) (n : ℕ) → n ≤ value_from n bs
grows [] n = omega arith
grows (b ∷ bs) n = let h = grows bs (10 * n + (b - 48)) in omega arith

and_false : (b : Bool) → (b && false) ≡ false
and_false true = refl
and_false false = refl

at_full : (limit n b : ℕ) (bs : List ℕ) → 48 ≤ b → b ≤ 57 → limit < 10 * n + (b - 48) → after limit n (b ∷ bs) ≡ None
at_full limit n b bs h k over =
    at_digit limit n b bs h k
    ∙ (let g = grows (before_dot bs) (10 * n + (b - 48)) in
    let f : leb (value_from (10 * n + (b - 48)) (before_dot bs)) limit ≡ false = lt-leb _ _ (omega arith) in
    rw (f, and_false (digits (before_dot bs))))

at_other : (limit n b : ℕ) (bs : List ℕ) → (b ≡ 46 → ⊥) → (b < 48) ⊎ (57 < b) → after limit n (b ∷ bs) ≡ None
at_other limit n b bs ne o = let f : digit b ≡ false = grind (arith, nat_tests) in rw (ne_eqb b 46 ne, f)

start : (limit b : ℕ) (bs : List ℕ) → 48 ≤ b → b ≤ 57 → natural limit (before_dot (b ∷ bs)) ≡ after limit 0 (b ∷ bs)
start limit b bs h k = let ne : b ≡ 46 → ⊥ = λ e. omega arith in rw (ne_eqb b 46 ne)

-- the same at an index of the text

pub end_from : (limit n i : ℕ) (s : List ℕ) → length s ≤ i → n ≤ limit → after limit n (drop i s) ≡ Some n
end_from limit n i s h k = ap (after limit n) (drop_all i s h) ∙ at_end limit n k

pub dot_from : (limit n i : ℕ) (s : List ℕ) → i < length s → get_or s i 0 ≡ 46 → n ≤ limit → after limit n (drop i s) ≡ Some n
dot_from limit n i s h e k = ap (after limit n) (drop_more s i 0 h) ∙ at_dot limit n (get_or s i 0) (drop (i + 1) s) e k

pub digit_from : (limit n i : ℕ) (s : List ℕ) → i < length s → 48 ≤ get_or s i 0 → get_or s i 0 ≤ 57
    → after limit n (drop i s) ≡ after limit (10 * n + (get_or s i 0 - 48)) (drop (i + 1) s)
digit_from limit n i s h a b = ap (after limit n) (drop_more s i 0 h) ∙ at_digit limit n (get_or s i 0) (drop (i + 1) s) a b

pub full_from : (limit n i : ℕ) (s : List ℕ) → i < length s → 48 ≤ get_or s i 0 → get_or s i 0 ≤ 57 → limit < 10 * n + (get_or s i 0 - 48)
    → after limit n (drop i s) ≡ None
full_from limit n i s h a b o = ap (after limit n) (drop_more s i 0 h) ∙ at_full limit n (get_or s i 0) (drop (i + 1) s) a b o

pub other_from : (limit n i : ℕ) (s : List ℕ) → i < length s → (get_or s i 0 ≡ 46 → ⊥) → (get_or s i 0 < 48) ⊎ (57 < get_or s i 0)
    → after limit n (drop i s) ≡ None
other_from limit n i s h ne o = ap (after limit n) (drop_more s i 0 h) ∙ at_other limit n (get_or s i 0) (drop (i + 1) s) ne o

pub begins : (limit : ℕ) (s : List ℕ) → 0 < length s → 48 ≤ get_or s 0 0 → get_or s 0 0 ≤ 57 → natural limit (before_dot s) ≡ after limit 0 s
begins limit [] h a b = absurd (omega arith)
begins limit (x ∷ xs) h a b = start limit x xs a b

pub none_at_none : (limit : ℕ) (s : List ℕ) → length s < 1 → natural limit (before_dot s) ≡ None
none_at_none limit [] h = refl
none_at_none limit (x ∷ xs) h = absurd (omega arith)

pub none_at_other : (limit : ℕ) (s : List ℕ) → 0 < length s → (get_or s 0 0 < 48) ⊎ (57 < get_or s 0 0) → natural limit (before_dot s) ≡ None
none_at_other limit [] h o = refl
none_at_other limit (x ∷ xs) h o =
    elim (eqb_tells x 46) [
      | inl p ↦ rw p.0
      | inr p ↦ let f : digit x ≡ false = grind (arith, nat_tests) in rw (p.0, f)
    ]

-- dots

-- one for a dot
abbrev pub dot_count : ℕ → ℕ
dot_count b = cond (eqb b 46) 1 0

pub dots_are : (bs : List ℕ) → dots bs ≡ sum_by dot_count bs
dots_are = is_sum_by dots dot_count refl (λ b bs. refl)

one_at_most : (t : Bool) (n m : ℕ) → n ≤ m → cond t 1 0 + n ≤ suc m
one_at_most true n m h = omega arith
one_at_most false n m h = omega arith

pub dots_few : (bs : List ℕ) → dots bs ≤ length bs
dots_few [] = omega arith
dots_few (b ∷ bs) = one_at_most (eqb b 46) (dots bs) (length bs) (dots_few bs)

-- the sign, and what follows it as a pattern cuts it

abbrev pub tail : List ℕ → List ℕ
tail s = take (length s - 1) (drop 1 s)

pub minus_at : (half : ℕ) (s : List ℕ) → 0 < length s → get_or s 0 0 ≡ 45 → integer_text half (before_dot s) ≡ negative (natural half (before_dot (tail s)))
minus_at half [] h e = absurd (omega arith)
minus_at half (b ∷ bs) h e =
    let ne : b ≡ 46 → ⊥ = λ q. omega arith in
    rw (ne_eqb b 46 ne, eq-eqb b 45 e) (ap (λ u. negative (natural half (before_dot u))) (sym (take_rest (b ∷ bs) 1)))

pub plus_at : (half : ℕ) (s : List ℕ) → 0 < length s → get_or s 0 0 ≡ 43 → integer_text half (before_dot s) ≡ positive (natural (half - 1) (before_dot (tail s)))
plus_at half [] h e = absurd (omega arith)
plus_at half (b ∷ bs) h e =
    let ne : b ≡ 46 → ⊥ = λ q. omega arith in
    let nm : b ≡ 45 → ⊥ = λ q. omega arith in
    rw (ne_eqb b 46 ne, ne_eqb b 45 nm, eq-eqb b 43 e) (ap (λ u. positive (natural (half - 1) (before_dot u))) (sym (take_rest (b ∷ bs) 1)))

pub empty_at : (half : ℕ) (s : List ℕ) → length s ≡ 0 → integer_text half (before_dot s) ≡ Err (refused InvalidInteger)
empty_at half [] h = refl
empty_at half (b ∷ bs) h = absurd (omega arith)

pub bare_at : (half : ℕ) (s : List ℕ) → (get_or s 0 0 ≡ 45 → ⊥) → (get_or s 0 0 ≡ 43 → ⊥) → integer_text half (before_dot s) ≡ positive (natural (half - 1) (before_dot s))
bare_at half [] nm np = refl
bare_at half (b ∷ bs) nm np =
    elim (eqb_tells b 46) [
      | inl p ↦ rw p.0
      | inr p ↦ rw (p.0, ne_eqb b 45 nm, ne_eqb b 43 np)
    ]

-- what is found lies in the range

found : (t : Bool) (limit n m : ℕ) → ◌≡◌ {A = Option ℕ} (cond (t && leb n limit) (Some n) None) (Some m) → m ≤ limit
found false limit n m e = let z : ◌≡◌ {A = ℕ} 0 1 = cc in absurd (omega arith)
found true limit n m e =
    elim (leb_tells n limit) [
      | inl p ↦ let q : n ≡ m = cc (rw p.0 at e) in omega arith
      | inr p ↦ let z : ◌≡◌ {A = ℕ} 0 1 = cc (rw p.0 at e) in absurd (omega arith)
    ]

within : (limit : ℕ) (ds : List ℕ) (m : ℕ) → natural limit ds ≡ Some m → m ≤ limit
within limit ds m e = found (numeral ds) limit (value_from 0 ds) m e

positive_in : (half : ℕ) (o : Option ℕ) (z : ℤ) → 0 < half → ((m : ℕ) → o ≡ Some m → m ≤ half - 1) → positive o ≡ Ok z → in_range half z ≡ Ok z
positive_in half (Some m) z h k e =
    let l = k m refl in
    let q : pos m ≡ z = cc in
    let f : ltb m half ≡ true = lt-ltb m half (omega arith) in
    subst (λ (x : ℤ). in_range half x ≡ Ok x) q (rw f)
positive_in half None z h k e = let w : ◌≡◌ {A = ℕ} 0 1 = cc in absurd (omega arith)

minus_in : (half m : ℕ) → 0 < half → m ≤ half → in_range half (neg_ℤ (pos m)) ≡ Ok (neg_ℤ (pos m))
minus_in half zero h l = let f : ltb 0 half ≡ true = lt-ltb 0 half h in rw f
minus_in half (suc m) h l = let f : ltb m half ≡ true = lt-ltb m half (omega arith) in rw f

negative_in : (half : ℕ) (o : Option ℕ) (z : ℤ) → 0 < half → ((m : ℕ) → o ≡ Some m → m ≤ half) → negative o ≡ Ok z → in_range half z ≡ Ok z
negative_in half (Some m) z h k e =
    let q : neg_ℤ (pos m) ≡ z = cc in
    subst (λ (x : ℤ). in_range half x ≡ Ok x) q (minus_in half m h (k m refl))
negative_in half None z h k e = let w : ◌≡◌ {A = ℕ} 0 1 = cc in absurd (omega arith)

pub text_in : (half : ℕ) (s : List ℕ) (z : ℤ) → 0 < half → integer_text half s ≡ Ok z → in_range half z ≡ Ok z
text_in half [] z h e = let w : ◌≡◌ {A = ℕ} 0 1 = cc in absurd (omega arith)
text_in half (b ∷ bs) z h e =
    elim (eqb_tells b 45) [
      | inl p ↦ negative_in half (natural half bs) z h (λ m q. within half bs m q) (rw p.0 at e)
      | inr p ↦ elim (eqb_tells b 43) [
        | inl q ↦ positive_in half (natural (half - 1) bs) z h (λ m r. within (half - 1) bs m r) (rw (p.0, q.0) at e)
        | inr q ↦ positive_in half (natural (half - 1) (b ∷ bs)) z h (λ m r. within (half - 1) (b ∷ bs) m r) (rw (p.0, q.0) at e)
      ]
    ]
