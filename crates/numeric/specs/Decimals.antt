-- Numeric text: UTF-8 with at most one dot. What stands before the dot is a sign or none, and digits, one at least; they write a
-- whole number of the target's range. After the dot anything may stand.
use Rattle.std.specs.Prelude.{ℕ, ◌+◌, ◌-◌, ◌*◌, Bool, true, false, cond, ◌&&◌, List, [], ◌∷◌, ℤ, pos, neg_ℤ, Some, None, Ok, Err, Option, Result, ◌==◌, nat_le}
use Rattle.mysql.specs.declared.fault.Fault.{Fault}
use Rattle.mysql.specs.declared.fault.Refusal.TheVariants.{NotUtf8, ManyDots, InvalidInteger}
use Rattle.mysql.specs.Faults.{refused}
use Rattle.mysql.specs.Ranges.{between}
use Rattle.numeric.specs.Utf8.{utf8}

-- the bytes of "+", "-" and "."
abbrev pub plus_sign : ℕ
plus_sign = 43

abbrev pub minus_sign : ℕ
minus_sign = 45

abbrev pub dot : ℕ
dot = 46

-- how many dots there are
abbrev pub dots : List ℕ → ℕ
dots [] = 0
dots (b ∷ bs) = cond (b == dot) 1 0 + dots bs

-- what stands before the first dot
abbrev pub before_dot : List ℕ → List ℕ
before_dot [] = []
before_dot (b ∷ bs) = cond (b == dot) [] (b ∷ before_dot bs)

-- "0" to "9"
abbrev pub digit : ℕ → Bool
digit b = between 48 57 b

abbrev pub digits : List ℕ → Bool
digits [] = true
digits (b ∷ bs) = digit b && digits bs

-- one digit at least
abbrev pub numeral : List ℕ → Bool
numeral [] = false
numeral (b ∷ bs) = digit b && digits bs

-- the number that digits write, after n was read
abbrev pub value_from : ℕ → List ℕ → ℕ
value_from n [] = n
value_from n (b ∷ bs) = value_from (10 * n + (b - 48)) bs

-- the number that digits write, where it is at most the limit
abbrev pub natural : ℕ → List ℕ → Option ℕ
natural limit ds = cond (numeral ds && nat_le (value_from 0 ds) limit) (Some (value_from 0 ds)) None

abbrev pub positive : Option ℕ → Result ℤ Fault
positive (Some n) = Ok (pos n)
positive None = Err (refused InvalidInteger)

abbrev pub negative : Option ℕ → Result ℤ Fault
negative (Some n) = Ok (neg_ℤ (pos n))
negative None = Err (refused InvalidInteger)

-- an integer from -half up to half - 1
abbrev pub integer_text : ℕ → List ℕ → Result ℤ Fault
integer_text half [] = Err (refused InvalidInteger)
integer_text half (b ∷ bs) =
    cond (b == minus_sign) (negative (natural half bs))
    (cond (b == plus_sign) (positive (natural (half - 1) bs)) (positive (natural (half - 1) (b ∷ bs))))

abbrev pub decimal : ℕ → List ℕ → Result ℤ Fault
decimal half bs = cond (utf8 bs) (cond (nat_le (dots bs) 1) (integer_text half (before_dot bs)) (Err (refused ManyDots))) (Err (refused NotUtf8))
