-- One step of moving kept bytes to new places.
use Rattle.std.proofs.Common.{◌≡◌, ℕ, ◌+◌, ◌-◌, ◌<◌, ◌≤◌, max, List, [], ◌∷◌, ◌++◌, length, get_or, take, drop, sym, ap, ◌∙◌, subst, ◌⊎◌, ⊎_elim, arith, below_more, drop-cons, length-drop, add-one}
use Rattle.std.proofs.lemmas.List.{get_or-take, take-take, length-take-le, length-append}
use Rattle.std.proofs.Math.Seq.{get_or-append_seam, take-append_seam}
use Rattle.std.proofs.lemmas.Bool.{cases_lt}
use Rattle.layout.specs.declared.record.ColumnRecord.{ColumnRecord}
use Rattle.layout.specs.declared.table.ColumnTable.{ColumnTable}
use Rattle.layout.specs.Columns.{no_record, kept}
use Rattle.layout.specs.Tables.{count_of, col, start, end, Grown}
use Rattle.layout.specs.Moves.{Beyond}
use Rattle.layout.proofs.Spans.{apart, inside, kept_le}
use Rattle.layout.proofs.Wanting.{new_kept}

abbrev begins : ColumnRecord → ℕ
begins c = c.start

-- the pass to the right, which began with a, came down to column i and holds b
abbrev pub RightSoFar : (old new : ColumnTable) → ℕ → (a b : List ℕ) → Type 0
RightSoFar old new i a b =
    ((k : ℕ) → k < i → (j : ℕ) → j < kept (col old k) → get_or b (start old k + j) 0 ≡ get_or a (start old k + j) 0)
    × ((k : ℕ) → i ≤ k → k < count_of old → (j : ℕ) → j < kept (col old k) → get_or b (max (start old k) (start new k) + j) 0 ≡ get_or a (start old k + j) 0)
    × Beyond (end new) a b

-- the pass to the left, which began with a, came up to column i and holds b
abbrev pub LeftSoFar : (old new : ColumnTable) → ℕ → (a b : List ℕ) → Type 0
LeftSoFar old new i a b =
    ((k : ℕ) → k < i → (j : ℕ) → j < kept (col old k) → get_or b (start new k + j) 0 ≡ get_or a (max (start old k) (start new k) + j) 0)
    × ((k : ℕ) → i ≤ k → k < count_of old → (j : ℕ) → j < kept (col old k) → get_or b (max (start old k) (start new k) + j) 0 ≡ get_or a (max (start old k) (start new k) + j) 0)
    × Beyond (end new) a b

-- one item of a list that is gone through from the front or from the back

pub from_front : (xs : List ColumnRecord) (i : ℕ) (x : ColumnRecord) (rest : List ColumnRecord) → drop i xs ≡ x ∷ rest → (i < length xs) × (x ≡ get_or xs i no_record) × (drop (i + 1) xs ≡ rest)
from_front xs i x rest e =
    let l : i < length xs = (let n = ap length e in omega (arith, n, length-drop i xs)) in
    let c : get_or xs i no_record ∷ drop (i + 1) xs ≡ x ∷ rest = rw add-one (sym (drop-cons xs i no_record l) ∙ e) in
    (l, cc, cc)

-- where no item is left of one of two lists that are as long, none is of the other
pub none_left : (i : ℕ) (xs ys : List ColumnRecord) → length ys ≡ length xs → (a b : List ColumnRecord) → a ≡ drop i xs → b ≡ drop i ys → (length a ≡ 0) ⊎ (length b ≡ 0) → length xs ≤ i
none_left i xs ys same a b p q e = ⊎_elim
    (λ (n : length a ≡ 0). omega (arith, n, ap length p, length-drop i xs))
    (λ (n : length b ≡ 0). omega (arith, n, ap length q, length-drop i ys, same))
    e

pub from_back : (xs : List ColumnRecord) (i : ℕ) (x : ColumnRecord) (rest : List ColumnRecord) → i ≤ length xs → take i xs ≡ rest ++ x ∷ []
    → (i ≡ i - 1 + 1) × (x ≡ get_or xs (i - 1) no_record) × (take (i - 1) xs ≡ rest)
from_back xs i x rest l e =
    let n : i ≡ length rest + 1 = omega (arith, length-take-le i xs l, ap length e, length-append rest (x ∷ [])) in
    let k : length rest ≡ i - 1 = omega arith in (
      omega arith,
      subst (λ (z : ℕ). x ≡ get_or xs z no_record) k
          (sym (get_or-append_seam rest x [] no_record) ∙ ap (λ (z : List ColumnRecord). get_or z (length rest) no_record) (sym e) ∙ get_or-take i xs (length rest) no_record (omega arith)),
      subst (λ (z : ℕ). take z xs ≡ rest) k
          (sym (take-take (length rest) i xs (omega arith)) ∙ ap (take (length rest)) e ∙ take-append_seam rest (x ∷ [])),
    )

pub none_before : (i : ℕ) (xs ys : List ColumnRecord) → length ys ≡ length xs → i ≤ length xs → (a b : List ColumnRecord) → a ≡ take i xs → b ≡ take i ys → (length a ≡ 0) ⊎ (length b ≡ 0) → i ≡ 0
none_before i xs ys same l a b p q e = ⊎_elim
    (λ (n : length a ≡ 0). omega (arith, n, ap length p, length-take-le i xs l))
    (λ (n : length b ≡ 0). omega (arith, n, ap length q, length-take-le i ys (omega (arith, same))))
    e

module _ (old new : ColumnTable) (grown : Grown old new) where
  old_apart : (i k : ℕ) → i < k → k < count_of old → start old i + kept (col old i) ≤ start old k
  old_apart i k l m = omega (arith, apart old i k l m, kept_le (col old i))

  new_apart : (i k : ℕ) → i < k → k < count_of old → start new i + kept (col old i) ≤ start new k
  new_apart i k l m = omega (arith, apart new i k l (omega (arith, grown.laid.count)), new_kept old new grown i (omega arith))

  old_inside : (i : ℕ) → i < count_of old → start old i + kept (col old i) ≤ old.room
  old_inside i l = let w = old.within in omega (arith, inside old i l, kept_le (col old i))

  new_inside : (i : ℕ) → i < count_of old → start new i + kept (col old i) ≤ end new
  new_inside i l = omega (arith, inside new i (omega (arith, grown.laid.count)), new_kept old new grown i l)

  new_room : (i : ℕ) → i < count_of old → start new i + kept (col old i) ≤ old.room
  new_room i l = let w = new.within in omega (arith, new_inside i l, grown.laid.room)

  -- the bytes of column i went from where it was to where it is to be: from a to b
  module _ (a b : List ℕ) (i : ℕ) (l : i < count_of old)
      (moved : (j : ℕ) → j < kept (col old i) → get_or b (start new i + j) 0 ≡ get_or a (start old i + j) 0)
      (before : (p : ℕ) → p < start new i → get_or b p 0 ≡ get_or a p 0)
      (after : (p : ℕ) → start new i + kept (col old i) ≤ p → get_or b p 0 ≡ get_or a p 0) where
    still_beyond : Beyond (end new) a b
    still_beyond p h = after p (omega (arith, new_inside i l))

    -- going left: earlier columns stand at their new places, later ones not before their old ones
    left_early : (k : ℕ) → k < i → (j : ℕ) → j < kept (col old k) → get_or b (start new k + j) 0 ≡ get_or a (start new k + j) 0
    left_early k h j m = before (start new k + j) (omega (arith, new_apart k i h l))

    left_late : start new i < start old i → (k : ℕ) → i < k → k < count_of old → (j : ℕ) → get_or b (max (start old k) (start new k) + j) 0 ≡ get_or a (max (start old k) (start new k) + j) 0
    left_late g k h m j = after (max (start old k) (start new k) + j) (omega (arith, old_apart i k h m))

    -- going right: later columns stand not before their new places, earlier ones at their old ones
    right_late : (k : ℕ) → i < k → k < count_of old → (j : ℕ) → get_or b (max (start old k) (start new k) + j) 0 ≡ get_or a (max (start old k) (start new k) + j) 0
    right_late k h m j = after (max (start old k) (start new k) + j) (omega (arith, new_apart i k h m))

    right_early : start old i < start new i → (k : ℕ) → k < i → (j : ℕ) → j < kept (col old k) → get_or b (start old k + j) 0 ≡ get_or a (start old k + j) 0
    right_early g k h j m = before (start old k + j) (omega (arith, old_apart k i h l))

    left_step : (a0 : List ℕ) → start new i < start old i → LeftSoFar old new i a0 a → LeftSoFar old new (i + 1) a0 b
    left_step a0 g h = (
      below_more (λ k. (j : ℕ) → j < kept (col old k) → get_or b (start new k + j) 0 ≡ get_or a0 (max (start old k) (start new k) + j) 0) i
          (λ k m j o. left_early k m j o ∙ h.0 k m j o)
          (λ j o. let e : start old i ≡ max (start old i) (start new i) = omega arith in moved j o ∙ ap (λ x. get_or a (x + j) 0) e ∙ h.1 i (omega arith) l j o),
      (λ k m n j o. left_late g k (omega arith) n j ∙ h.1 k (omega arith) n j o),
      (λ p m. still_beyond p m ∙ h.2 p m),
    )

    right_step : (a0 : List ℕ) → start old i < start new i → RightSoFar old new (i + 1) a0 a → RightSoFar old new i a0 b
    right_step a0 g h = (
      (λ k m j o. right_early g k m j o ∙ h.0 k (omega arith) j o),
      (λ k m n j o. ⊎_elim
          (λ q. right_late k q n j ∙ h.1 k (omega arith) n j o)
          (λ q. let e : k ≡ i = omega arith in
          let w : max (start old i) (start new i) ≡ start new i = omega arith in
          let P : ℕ → Type 0 = λ x. (j : ℕ) → j < kept (col old x) → get_or b (max (start old x) (start new x) + j) 0 ≡ get_or a0 (start old x + j) 0 in
          subst P (sym e) (λ y u. ap (λ x. get_or b (x + y) 0) w ∙ moved y u ∙ h.0 i (omega arith) y u) j o)
          (cases_lt i k)),
      (λ p m. still_beyond p m ∙ h.2 p m),
    )

  -- a column that does not go left stands at its new place already
  left_skip : (a0 a : List ℕ) (i : ℕ) → i < count_of old → start old i ≤ start new i → LeftSoFar old new i a0 a → LeftSoFar old new (i + 1) a0 a
  left_skip a0 a i l g h = (
    below_more (λ k. (j : ℕ) → j < kept (col old k) → get_or a (start new k + j) 0 ≡ get_or a0 (max (start old k) (start new k) + j) 0) i
        h.0
        (λ j o. let e : start new i ≡ max (start old i) (start new i) = omega arith in ap (λ x. get_or a (x + j) 0) e ∙ h.1 i (omega arith) l j o),
    (λ k m n j o. h.1 k (omega arith) n j o),
    h.2,
  )

  -- a column that does not go right stands where it is to stand
  right_skip : (a0 a : List ℕ) (i : ℕ) → start new i ≤ start old i → RightSoFar old new (i + 1) a0 a → RightSoFar old new i a0 a
  right_skip a0 a i g h = (
    (λ k m j o. h.0 k (omega arith) j o),
    (λ k m n j o. ⊎_elim
        (λ q. h.1 k (omega arith) n j o)
        (λ q. let e : k ≡ i = omega arith in
        let w : max (start old i) (start new i) ≡ start old i = omega arith in
        let P : ℕ → Type 0 = λ x. (j : ℕ) → j < kept (col old x) → get_or a (max (start old x) (start new x) + j) 0 ≡ get_or a0 (start old x + j) 0 in
        subst P (sym e) (λ y u. ap (λ x. get_or a (x + y) 0) w ∙ h.0 i (omega arith) y u) j o)
        (cases_lt i k)),
    h.2,
  )

  -- the same of records that were read: x is column i of the old table, and y that of the new one
  module _ (i : ℕ) (l : i < count_of old) (x y : ColumnRecord) (is : x ≡ col old i) (to : y ≡ col new i) where
    from_is : x.start ≡ start old i
    from_is = ap begins is

    to_is : y.start ≡ start new i
    to_is = ap begins to

    pub stands_inside : x.start + kept x ≤ old.room
    stands_inside = omega (arith, from_is, ap kept is, old_inside i l)

    pub lands_inside : y.start + kept x ≤ old.room
    lands_inside = omega (arith, to_is, ap kept is, new_room i l)

    module _ (a0 a b : List ℕ) (n : ℕ) (all : n ≡ kept x)
        (moved : (j : ℕ) → j < n → get_or b (y.start + j) 0 ≡ get_or a (x.start + j) 0)
        (before : (p : ℕ) → p < y.start → get_or b p 0 ≡ get_or a p 0)
        (after : (p : ℕ) → y.start + n ≤ p → get_or b p 0 ≡ get_or a p 0) where
      moved_at : (j : ℕ) → j < kept (col old i) → get_or b (start new i + j) 0 ≡ get_or a (start old i + j) 0
      moved_at j h = rw (← from_is, ← to_is) (moved j (omega (arith, all, ap kept is)))

      before_at : (p : ℕ) → p < start new i → get_or b p 0 ≡ get_or a p 0
      before_at p h = before p (omega (arith, to_is))

      after_at : (p : ℕ) → start new i + kept (col old i) ≤ p → get_or b p 0 ≡ get_or a p 0
      after_at p h = after p (omega (arith, to_is, all, ap kept is))

      pub left_shifted : y.start < x.start → LeftSoFar old new i a0 a → LeftSoFar old new (i + 1) a0 b
      left_shifted g h = left_step a b i l moved_at before_at after_at a0 (omega (arith, from_is, to_is)) h

      pub right_shifted : x.start < y.start → RightSoFar old new (i + 1) a0 a → RightSoFar old new i a0 b
      right_shifted g h = right_step a b i l moved_at before_at after_at a0 (omega (arith, from_is, to_is)) h

    pub left_stays : (a0 a : List ℕ) → x.start ≤ y.start → LeftSoFar old new i a0 a → LeftSoFar old new (i + 1) a0 a
    left_stays a0 a g h = left_skip a0 a i l (omega (arith, from_is, to_is)) h

    pub right_stays : (a0 a : List ℕ) → y.start ≤ x.start → RightSoFar old new (i + 1) a0 a → RightSoFar old new i a0 a
    right_stays a0 a g h = right_skip a0 a i (omega (arith, from_is, to_is)) h
