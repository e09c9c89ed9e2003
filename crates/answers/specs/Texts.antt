-- How words are written: each has a space before it; and what a text has of them.
use Rattle.std.specs.Prelude.{◌≡◌, ℕ, ℤ, ◌^◌, ◌<◌, List, [], ◌∷◌, ◌++◌, length, codes, MatchBool}
use Rattle.std.specs.Fmt.{decimal, signed_decimal}
use Rattle.hex.specs.Hex.{encode_lower}
use Rattle.mysql.specs.declared.fault.Fault.{Fault}
use Rattle.mysql.specs.Refusals.{number_of}
use Rattle.answers.specs.declared.text.Text.{Text}

abbrev pub word : List ℕ → List ℕ
word w = codes " " ++ w

abbrev pub number : ℕ → List ℕ
number n = word (decimal n)

abbrev pub signed : ℤ → List ℕ
signed z = word (signed_decimal z)

-- a refusal goes by its number
abbrev pub refusal : Fault → List ℕ
refusal f = codes " !" ++ decimal (number_of f.refusal)

-- bytes in hexadecimal; no bytes are a dash
abbrev pub hexadecimal : List ℕ → List ℕ
hexadecimal [] = codes "-"
hexadecimal (b ∷ bs) = encode_lower (b ∷ bs)

-- A text has these words; or they are longer than 2 ^ 20 bytes, and there was no memory for all of them.
abbrev pub Has : Text → (words : List ℕ) → Type 0
Has text words = MatchBool text.is_cut (2 ^ 20 < length words) (text.bytes.items ≡ words)

-- more words were put behind those that a text had
pub record Puts (old new : Text) (more : List ℕ) : Type 0 where
  pub puts : (words : List ℕ) → Has old words → Has new (words ++ more)
