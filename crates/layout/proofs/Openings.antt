-- The capacity of a place at an opening.
use Rattle.std.proofs.Common.{ℕ, ◌≤◌, Bool, true, false, cond, eqb, [], ◌∷◌, Some, None, arith}
use Rattle.mysql.specs.Ranges.{among}
use Rattle.mysql.specs.Types.{size_of}
use Rattle.layout.specs.Tables.{first_capacity}

some_sizes : (a b c d e : Bool) → 1 ≤ first_capacity (cond a (Some 1) (cond b (Some 2) (cond c (Some 4) (cond d (Some 8) (cond e (Some 48) None)))))
some_sizes true b c d e = omega arith
some_sizes false true c d e = omega arith
some_sizes false false true d e = omega arith
some_sizes false false false true e = omega arith
some_sizes false false false false true = omega arith
some_sizes false false false false false = omega arith

-- a place has a byte at least
pub first_some : (code : ℕ) → 1 ≤ first_capacity (size_of code)
first_some code = some_sizes (eqb code 1) (among (2 ∷ 13 ∷ []) code) (among (3 ∷ 4 ∷ 9 ∷ []) code) (among (5 ∷ 8 ∷ []) code) (among (7 ∷ 10 ∷ 11 ∷ 12 ∷ []) code)
