-- Fields, added up.
use Rattle.std.specs.Prelude.{◌≡◌, ℕ, ◌-◌, ◌^◌, min, List, [], ◌∷◌, ◌++◌, length, sum_by, count_by, is_none, Some, None, Ok, Err, Result}
use Rattle.mysql.specs.declared.fault.Fault.{Fault}
use Rattle.checksum.specs.Checksums.{IsOf}
use Rattle.trays.specs.declared.sums.Sums.{Sums}
use Rattle.trays.specs.Fields.{Field}

abbrev pub capped : ℕ → ℕ
capped n = min n (2 ^ 64 - 1)

abbrev pub size_of : Field → ℕ
size_of None = 0
size_of (Some bytes) = length bytes

-- the bytes of all fields that are not null, in order
abbrev pub bytes_of : List Field → List ℕ
bytes_of [] = []
bytes_of (None ∷ fields) = bytes_of fields
bytes_of (Some bytes ∷ fields) = bytes ++ bytes_of fields

pub record AddsUp (s : Sums) (fields : List Field) : Type 0 where
  pub rows : s.rows ≡ capped (length fields)
  pub nulls : s.nulls ≡ capped (count_by is_none fields)
  pub bytes : s.bytes ≡ capped (sum_by size_of fields)
  pub checksum : IsOf s.checksum (bytes_of fields)

-- the sums of these fields, or this refusal
abbrev pub SumsOf : Result (List Field) Fault → Result Sums Fault → Type 0
SumsOf (Ok fields) (Ok s) = AddsUp s fields
SumsOf (Ok fields) (Err f) = ⊥
SumsOf (Err f) (Ok s) = ⊥
SumsOf (Err f) (Err g) = g ≡ f
