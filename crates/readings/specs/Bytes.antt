-- Bytes as numbers, lowest byte first, and values that need so many bytes.
use Rattle.std.specs.Prelude.{ℕ, ◌+◌, ◌*◌, cond, List, [], ◌∷◌, length, take, Ok, Err, Result, nat_le}
use Rattle.mysql.specs.declared.fault.Fault.{Fault}
use Rattle.mysql.specs.declared.fault.Refusal.TheVariants.{TooShort}
use Rattle.mysql.specs.Faults.{refused}

-- the number that bytes stand for
abbrev pub le : List ℕ → ℕ
le [] = 0
le (b ∷ bs) = b + 256 * le bs

-- the number in the first bytes, where there are as many; longer bytes pass, shorter ones are refusal 15
abbrev pub prefix : ℕ → List ℕ → Result ℕ Fault
prefix width bs = cond (nat_le width (length bs)) (Ok (le (take width bs))) (Err (refused TooShort))
