-- The table of kept pairs is the one that the rule makes: antt computes both, over all 620 entries, and compares them.
-- Assumes nothing.
use Rattle.std.proofs.Common.{◌≡◌, ℕ, ◌-◌, ◌<◌, ◌≤◌, Bool, false, List, [], map, get_or, ap, ◌∙◌, arith, rules}
use Rattle.std.proofs.lemmas.List.{get_or-map}
use Rattle.std.proofs.lemmas.List.FromFn.{get_or-map-range_with_len}
use Rattle.std.proofs.lemmas.Bool.Decides.{nat_tests}
use Rattle.mysql.specs.declared.backend.MysqlType.{MysqlType}
use Rattle.mysql.specs.Kept.{keeps, row_of, types, code_at, named_codes}

abbrev table : List (List Bool)
table = map (λ t. map (keeps t) named_codes) types

-- the row of a type
row_is : (t : MysqlType) → get_or table (row_of t) [] ≡ map (keeps t) named_codes
row_is t = search rules

-- the entry of a type and a code
entry : (t : MysqlType) (k : ℕ) → k < 31 → get_or (get_or table (row_of t) []) k false ≡ keeps t (code_at k)
entry t k h =
    ap (λ (r : List Bool). get_or r k false) (row_is t)
    ∙ get_or-map (keeps t) named_codes k 0 false h
    ∙ ap (keeps t) (get_or-map-range_with_len code_at 0 31 k k 0 h (omega arith))

pub low : (t : MysqlType) (c : ℕ) → c ≤ 19 → get_or (get_or table (row_of t) []) c false ≡ keeps t c
low t c h = let e : code_at c ≡ c = grind (arith, nat_tests) in entry t c (omega arith) ∙ ap (keeps t) e

pub high : (t : MysqlType) (c : ℕ) → 245 ≤ c → c < 256 → get_or (get_or table (row_of t) []) (c - 225) false ≡ keeps t c
high t c h g = let e : code_at (c - 225) ≡ c = grind (arith, nat_tests) in entry t (c - 225) (omega arith) ∙ ap (keeps t) e
