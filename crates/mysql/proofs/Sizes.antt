-- The table of sizes is the one that the rule makes, with 0 for none: antt computes both, over all 256 entries, and compares them.
use Rattle.std.proofs.Common.{◌≡◌, ℕ, ◌<◌, List, map, get_or, Some, None, Option, refl, ◌∙◌, arith}
use Rattle.std.specs.Option.{unwrap_or}
use Rattle.std.specs.List.{range_with_len}
use Rattle.std.proofs.lemmas.List.FromFn.{get_or-map-range_with_len}
use Rattle.mysql.specs.Types.{size_of}

abbrev table : List ℕ
table = map (λ c. unwrap_or (size_of c) 0) (range_with_len 0 256)

some_of : (o : Option ℕ) → (unwrap_or o 0 ≡ 0 → ⊥) → Some (unwrap_or o 0) ≡ o
some_of None h = absurd (h refl)
some_of (Some n) h = refl

at : (c : ℕ) → c < 256 → get_or table c 0 ≡ unwrap_or (size_of c) 0
at c h = get_or-map-range_with_len (λ c. unwrap_or (size_of c) 0) 0 256 c c 0 h (omega arith)

pub size_is : (c n : ℕ) → c < 256 → n ≡ get_or table c 0 → (n ≡ 0 → ⊥) → Some n ≡ size_of c
size_is c n h e not_none =
    let e' = e ∙ at c h in rw e' (some_of (size_of c) (λ z. not_none (e' ∙ z)))
