-- The laws over what was written.
-- Assumes nothing.
use Rattle.std.proofs.Common.{◌≡◌, ℕ, suc, ◌+◌, ◌-◌, ◌^◌, ◌<◌, ◌≤◌, true, false, cond, ◌&&◌, eqb, ltb, leb, List, [], ◌∷◌, ◌++◌, length, ℤ, pos, negsuc, Some, None, Ok, Err, decimal as written, sym, refl, ap, ◌∙◌, subst, inl, inr, ⊎_elim, arith, rules}
use Rattle.std.proofs.lemmas.Str.Parse.{IsNumeralModel, numerals_by_fold}
use Rattle.std.proofs.lemmas.Fmt.{digits_decimal, digits_value-decimal, decimal_nonempty}
use Rattle.std.proofs.lemmas.Bool.{le-leb, ltb-true, ne_eqb, and_parts, cases_Bool}
use Rattle.std.proofs.lemmas.Bool.Decides.{nat_tests}
use Rattle.mysql.specs.Faults.{refused}
use Rattle.mysql.specs.declared.fault.Refusal.TheVariants.{OutOfRange, NotUtf8, ManyDots}
use Rattle.numeric.specs.Utf8.{utf8}
use Rattle.numeric.specs.Decimals.{dots, before_dot, digit, digits, numeral, value_from, natural, positive, negative, integer_text, decimal}
use Rattle.numeric.specs.Laws.{Fraction, PrintedReadsBack}
use Rattle.numeric.proofs.Characters.{add_1, is_one}

own : IsNumeralModel (λ ds. digits ds ≡ true) (value_from 0)
own = numerals_by_fold _ (search rules) value_from (search rules)

digit_low : (b : ℕ) → digit b ≡ true → 48 ≤ b
digit_low b h = grind (arith, nat_tests)

digit_high : (b : ℕ) → digit b ≡ true → b ≤ 57
digit_high b h = grind (arith, nat_tests)

-- digits before a text

digits_utf8 : (ds f : List ℕ) → digits ds ≡ true → utf8 f ≡ true → utf8 (ds ++ f) ≡ true
digits_utf8 [] f h k = k
digits_utf8 (b ∷ ds) f h k = let p = and_parts (digit b) (digits ds) h in add_1 b (ds ++ f) (is_one b (let l = digit_high b p.0 in omega arith)) (digits_utf8 ds f p.1 k)

no_dot : (b : ℕ) → digit b ≡ true → eqb b 46 ≡ false
no_dot b h = let l = digit_low b h in ne_eqb b 46 (λ e. omega arith)

digits_dots : (ds f : List ℕ) → digits ds ≡ true → dots (ds ++ f) ≡ dots f
digits_dots [] f h = refl
digits_dots (b ∷ ds) f h =
    let p = and_parts (digit b) (digits ds) h in
    let k = digits_dots ds f p.1 in
    ap (λ t. cond t 1 0 + dots (ds ++ f)) (no_dot b p.0) ∙ omega arith

digits_before : (ds f : List ℕ) → digits ds ≡ true → before_dot f ≡ [] → before_dot (ds ++ f) ≡ ds
digits_before [] f h k = k
digits_before (b ∷ ds) f h k =
    let p = and_parts (digit b) (digits ds) h in
    ap (λ t. cond t [] (b ∷ before_dot (ds ++ f))) (no_dot b p.0) ∙ ap (λ u. b ∷ u) (digits_before ds f p.1 k)

-- a fraction

after_dot : (f t : List ℕ) → f ≡ 46 ∷ t → utf8 t ≡ true → utf8 f ≡ true
after_dot f t e h = subst (λ (x : List ℕ). utf8 x ≡ true) (sym e) (add_1 46 t refl h)

fraction_utf8 : (f : List ℕ) → Fraction f → utf8 f ≡ true
fraction_utf8 f (inl e) = ap utf8 e
fraction_utf8 f (inr p) = after_dot f p.0 p.1 p.2

fraction_dots : (f : List ℕ) → Fraction f → dots f ≤ 1
fraction_dots f (inl e) = let k = ap dots e in omega arith
fraction_dots f (inr p) = let k = ap dots p.1 in let z = p.3 in omega arith

fraction_before : (f : List ℕ) → Fraction f → before_dot f ≡ []
fraction_before f (inl e) = ap before_dot e
fraction_before f (inr p) = ap before_dot p.1

-- the digits of a number

numeral_from : (ds : List ℕ) → 0 < length ds → digits ds ≡ true → numeral ds ≡ true
numeral_from [] l h = absurd (omega arith)
numeral_from (b ∷ ds) l h = h

natural_of : (limit n : ℕ) → n < 2 ^ 64 → n ≤ limit → natural limit (written n) ≡ Some n
natural_of limit n h l =
    let v : value_from 0 (written n) ≡ n = digits_value-decimal own n h in
    let d : numeral (written n) ≡ true = numeral_from (written n) (decimal_nonempty n h) (digits_decimal own n h) in
    ap (λ t. cond (t && leb (value_from 0 (written n)) limit) (Some (value_from 0 (written n))) None) d
    ∙ ap (λ k. cond (leb k limit) (Some k) None) v
    ∙ ap (λ t. cond t (Some n) None) (le-leb n limit l)

unsigned_text : (half : ℕ) (ds : List ℕ) → 0 < length ds → digits ds ≡ true → integer_text half ds ≡ positive (natural (half - 1) ds)
unsigned_text half [] l h = absurd (omega arith)
unsigned_text half (b ∷ ds) l h =
    let k = digit_low b (and_parts (digit b) (digits ds) h).0 in
    ap (λ t. cond t (negative (natural half ds)) (cond (eqb b 43) (positive (natural (half - 1) ds)) (positive (natural (half - 1) (b ∷ ds))))) (ne_eqb b 45 (λ e. omega arith))
    ∙ ap (λ t. cond t (positive (natural (half - 1) ds)) (positive (natural (half - 1) (b ∷ ds)))) (ne_eqb b 43 (λ e. omega arith))

-- a number of the range is below its end
below : (half n : ℕ) (z : ℤ) → (cond (ltb n half) (Ok z) (Err (refused OutOfRange))) ≡ Ok z → n < half
below half n z e =
    ⊎_elim
    (λ h. ltb-true n half h)
    (λ h. let k = ap (λ t. cond t (Ok z) (Err (refused OutOfRange))) (sym h) ∙ e in let w : ◌≡◌ {A = ℕ} 0 1 = cc in absurd (omega arith))
    (cases_Bool (ltb n half))

-- a text with these three facts reads as what stands before its dot
reads_as : (half : ℕ) (bs ds : List ℕ) → utf8 bs ≡ true → dots bs ≤ 1 → before_dot bs ≡ ds → decimal half bs ≡ integer_text half ds
reads_as half bs ds u d b =
    ap (λ t. cond t (cond (leb (dots bs) 1) (integer_text half (before_dot bs)) (Err (refused ManyDots))) (Err (refused NotUtf8))) u
    ∙ ap (λ t. cond t (integer_text half (before_dot bs)) (Err (refused ManyDots))) (le-leb (dots bs) 1 d)
    ∙ ap (integer_text half) b

pub printed : PrintedReadsBack
printed half (pos n) f h l r k =
    let b = below half n (pos n) r in
    let s : n < 2 ^ 64 = omega arith in
    let ds = digits_decimal own n s in
    reads_as half (written n ++ f) (written n) (digits_utf8 (written n) f ds (fraction_utf8 f k))
    (omega (arith, digits_dots (written n) f ds, fraction_dots f k)) (digits_before (written n) f ds (fraction_before f k))
    ∙ unsigned_text half (written n) (decimal_nonempty n s) ds
    ∙ ap positive (natural_of (half - 1) n s (omega arith))
printed half (negsuc n) f h l r k =
    let b = below half n (negsuc n) r in
    let s : suc n < 2 ^ 64 = omega arith in
    let ds = digits_decimal own (suc n) s in
    let w = written (suc n) in
    reads_as half (45 ∷ (w ++ f)) (45 ∷ w) (add_1 45 (w ++ f) refl (digits_utf8 w f ds (fraction_utf8 f k)))
    (omega (arith, digits_dots w f ds, fraction_dots f k)) (ap (λ u. 45 ∷ u) (digits_before w f ds (fraction_before f k)))
    ∙ ap negative (natural_of half (suc n) s (omega arith))
