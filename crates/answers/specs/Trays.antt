-- The answers to questions of a tray: what all of its rows have, in numbers; or what was refused.
use Rattle.std.specs.Prelude.{ℕ, ◌+◌, ◌-◌, ◌^◌, min, Bool, true, false, cond, List, [], ◌∷◌, ◌++◌, length, Some, None, Ok, Err}
use Rattle.checksum.specs.Crc.{crc32}
use Rattle.walk.specs.Walks.{Said, unopened, a_row, a_column, refused, the_end}
use Rattle.answers.specs.Texts.{number}
use Rattle.answers.specs.Events.{said_word}

abbrev pub is_null : Said → Bool
is_null (unopened f) = false
is_null a_row = false
is_null (a_column (Ok None)) = true
is_null (a_column (Ok (Some v))) = false
is_null (a_column (Err f)) = false
is_null (refused f) = false
is_null the_end = false

abbrev pub nulls_in : List Said → ℕ
nulls_in [] = 0
nulls_in (x ∷ xs) = cond (is_null x) 1 0 + nulls_in xs

-- the bytes of a value
abbrev pub bytes_of : Said → List ℕ
bytes_of (unopened f) = []
bytes_of a_row = []
bytes_of (a_column (Ok None)) = []
bytes_of (a_column (Ok (Some v))) = v.bytes
bytes_of (a_column (Err f)) = []
bytes_of (refused f) = []
bytes_of the_end = []

-- the bytes of all values, in order
abbrev pub bytes_in : List Said → List ℕ
bytes_in [] = []
bytes_in (x ∷ xs) = bytes_of x ++ bytes_in xs

-- what was refused, in a word
abbrev pub trouble_of : Said → List ℕ
trouble_of (unopened f) = said_word (unopened f)
trouble_of a_row = []
trouble_of (a_column (Ok x)) = []
trouble_of (a_column (Err f)) = said_word (a_column (Err f))
trouble_of (refused f) = said_word (refused f)
trouble_of the_end = []

abbrev pub trouble_in : List Said → List ℕ
trouble_in [] = []
trouble_in (x ∷ xs) = trouble_of x ++ trouble_in xs

-- a count stops at the most that 64 bits hold
abbrev pub capped : ℕ → ℕ
capped n = min n (2 ^ 64 - 1)

-- how many columns are null, how many bytes the others have, and the checksum of all these; unless something was refused
abbrev pub numbers : List Said → List ℕ
numbers said = number (capped (nulls_in said)) ++ (number (capped (length (bytes_in said))) ++ number (crc32 (bytes_in said)))

abbrev pub or_trouble : List ℕ → List ℕ → List ℕ
or_trouble words [] = words
or_trouble words (b ∷ bs) = b ∷ bs

abbrev pub tray_words : List Said → List ℕ
tray_words said = or_trouble (numbers said) (trouble_in said)
