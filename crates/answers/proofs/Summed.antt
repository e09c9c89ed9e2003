-- What a sum holds, where one thing more is said.
use Rattle.std.proofs.Common.{◌≡◌, ℕ, ◌+◌, Bool, false, cond, List, [], ◌∷◌, ◌++◌, length, length-append, nat_eq, true, refl, sym, ap, ◌∙◌, subst, arith}
use Rattle.std.proofs.lemmas.Bool.{eqb-true}
use Rattle.std.proofs.lemmas.List.{append_assoc, append-nil}
use Rattle.checksum.specs.Checksums.{IsOf}
use Rattle.walk.specs.Walks.{Said}
use Rattle.answers.specs.declared.text.Text.{Text}
use Rattle.answers.specs.declared.trays.Sum.{Sum}
use Rattle.answers.specs.Trays.{is_null, nulls_in, bytes_of, bytes_in, trouble_of, trouble_in, capped, or_trouble}
use Rattle.answers.specs.Texts.{Has}
use Rattle.answers.specs.Sums.{Holds}

bytes_snoc : (xs : List Said) (x : Said) → bytes_in (xs ++ x ∷ []) ≡ bytes_in xs ++ bytes_of x
bytes_snoc [] x = append-nil (bytes_of x)
bytes_snoc (y ∷ ys) x = ap (λ (bs : List ℕ). bytes_of y ++ bs) (bytes_snoc ys x) ∙ sym (append_assoc (bytes_of y) (bytes_in ys) (bytes_of x))

trouble_snoc : (xs : List Said) (x : Said) → trouble_in (xs ++ x ∷ []) ≡ trouble_in xs ++ trouble_of x
trouble_snoc [] x = append-nil (trouble_of x)
trouble_snoc (y ∷ ys) x = ap (λ (bs : List ℕ). trouble_of y ++ bs) (trouble_snoc ys x) ∙ sym (append_assoc (trouble_of y) (trouble_in ys) (trouble_of x))

nulls_snoc : (xs : List Said) (x : Said) → nulls_in (xs ++ x ∷ []) ≡ nulls_in xs + cond (is_null x) 1 0
nulls_snoc [] x = omega arith
nulls_snoc (y ∷ ys) x = let h = nulls_snoc ys x in omega (arith, h)

-- one thing more
pub more : (sum sum' : Sum) (xs : List Said) (x : Said) → Holds sum xs
    → sum'.nulls ≡ capped (sum.nulls + cond (is_null x) 1 0) → sum'.bytes ≡ capped (sum.bytes + length (bytes_of x))
    → IsOf sum'.checksum (bytes_in xs ++ bytes_of x) → Has sum'.text (trouble_in xs ++ trouble_of x) → Holds sum' (xs ++ x ∷ [])
more sum sum' xs x h n b c t =
    let ns = nulls_snoc xs x in
    let bs : length (bytes_in (xs ++ x ∷ [])) ≡ length (bytes_in xs) + length (bytes_of x) = ap length (bytes_snoc xs x) ∙ length-append (bytes_in xs) (bytes_of x) in
    let hn = h.nulls in
    let hb = h.bytes in
    record {
      nulls = omega (arith, ns, hn, n);
      bytes = omega (arith, bs, hb, b);
      checksum = subst (λ (ys : List ℕ). IsOf sum'.checksum ys) (sym (bytes_snoc xs x)) c;
      trouble = subst (λ (ws : List ℕ). Has sum'.text ws) (sym (trouble_snoc xs x)) t;
    }

-- one thing that has neither nulls nor bytes
pub quiet : (sum : Sum) (text : Text) (xs : List Said) (x : Said) → is_null x ≡ false → bytes_of x ≡ [] → Has text (trouble_in xs ++ trouble_of x) → Holds sum xs
    → Holds (record { nulls = sum.nulls; bytes = sum.bytes; checksum = sum.checksum; text = text }) (xs ++ x ∷ [])
quiet sum text xs x n b t h =
    let hn = h.nulls in
    let hb = h.bytes in
    let one : ◌≡◌ {A = ℕ} (cond (is_null x) 1 0) 0 = ap (λ (z : Bool). cond z 1 0) n in
    let none : length (bytes_of x) ≡ 0 = ap length b in
    more sum _ xs x h (omega (arith, hn, one)) (omega (arith, hb, none))
    (subst (λ (ys : List ℕ). IsOf sum.checksum (bytes_in xs ++ ys)) (sym b) (subst (λ (ys : List ℕ). IsOf sum.checksum ys) (sym (append-nil (bytes_in xs))) h.checksum)) t

-- nothing more was put into words
pub same_words : (text : Text) (words : List ℕ) → Has text words → Has text (words ++ [])
same_words text words h = subst (λ (ws : List ℕ). Has text ws) (sym (append-nil words)) h

pub numbers_alone : (numbers trouble : List ℕ) → nat_eq (length trouble) 0 ≡ true → or_trouble numbers trouble ≡ trouble ++ numbers
numbers_alone numbers [] e = refl
numbers_alone numbers (b ∷ bs) e = absurd (omega (arith, eqb-true _ _ e))

pub trouble_alone : (numbers trouble : List ℕ) → nat_eq (length trouble) 0 ≡ false → or_trouble numbers trouble ≡ trouble
trouble_alone numbers [] e = cc
trouble_alone numbers (b ∷ bs) e = refl
