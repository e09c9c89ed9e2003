-- A field that was written to a part of the arena, and the arena with that part in it.
-- Assumes nothing.
use Rattle.std.proofs.Common.{◌≡◌, ℕ, ◌+◌, ◌<◌, ◌≤◌, List, length, get_or, sym, ap, ◌∙◌, arith, rules}
use borrow.Rule.Slice.PartMut.{put_mid}
use Rattle.std.proofs.lemmas.List.{places}
use Rattle.host.specs.declared.records.Report.{Report}
use Rattle.host.specs.Fields.{Field, null, held}
use Rattle.host.specs.Calls.{from_offset, truncates, Reported, PartReported, Stands}

-- a part put back into a list

module _ (a k : ℕ) (xs ys : List ℕ) (h : a + k ≤ length xs) (l : length ys ≡ k) where
  pub put_inside : (j : ℕ) → j < k → get_or (put_mid a k xs ys) (a + j) 0 ≡ get_or ys j 0
  put_inside j m = search (rules, places)

  pub put_below : (p : ℕ) → p < a → get_or (put_mid a k xs ys) p 0 ≡ get_or xs p 0
  put_below p m = search (rules, places)

  pub put_above : (p : ℕ) → a + k ≤ p → get_or (put_mid a k xs ys) p 0 ≡ get_or xs p 0
  put_above p m = search (rules, places)

-- a whole field is one from its first byte on

pub whole_reported : (f : Field) (n : ℕ) (r : Report) → PartReported f 0 n r → Reported f n r
whole_reported null n r h = h
whole_reported (held lost bs) n r h = h

pub truncates_is : (f : Field) (n : ℕ) (r : Report) → Reported f n r → truncates f n ≡ r.is_truncated
truncates_is null n r h = sym h.1
truncates_is (held lost bs) n r h = sym h.2

pub whole_stands : (f : Field) (start n : ℕ) (part arena : List ℕ) → ((j : ℕ) → j < n → get_or arena (start + j) 0 ≡ get_or part j 0) → Stands (from_offset 0 f) 0 n part → Stands f start n arena
whole_stands null start n part arena p s = tt
whole_stands (held lost bs) start n part arena p s =
    λ j l. p j (omega arith) ∙ (let z : j ≡ 0 + j = omega arith in ap (λ i. get_or part i 0) z) ∙ s j l
