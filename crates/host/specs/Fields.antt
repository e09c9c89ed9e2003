-- What a row has in a column: null, or bytes. A figure may be lost where a number did not fit the code that it was asked for at.
use Rattle.std.specs.Prelude.{◌≡◌, ℕ, ◌^◌, ◌<◌, Bool, false, List, length, Some, None, Option}
use Rattle.std.specs.List.{AllByRecursion}
use Rattle.mysql.specs.Types.{size_of}

-- null, or bytes, with a loss mark or without
pub data Field : Type 0 where
  null : Field
  held : Bool → List ℕ → Field

-- bytes at a code of a size: as many as the size, and a figure may be lost; at a code without: at most 4,294,967,295, and none is lost
abbrev pub HeldAt : Option ℕ → Bool → List ℕ → Type 0
HeldAt (Some size) lost bs = length bs ≡ size
HeldAt None lost bs = (lost ≡ false) × (length bs < 2 ^ 32)

-- numbers that are bytes
abbrev pub Bytes : List ℕ → Type 0
Bytes bs = AllByRecursion (λ b. b < 256) bs

abbrev pub FieldAt : ℕ → Field → Type 0
FieldAt code null = Unit {0}
FieldAt code (held lost bs) = HeldAt (size_of code) lost bs × Bytes bs
