-- How a recorded line spells a question: the word of its kind, a word for each thing that is asked about, and then the answer.
use Rattle.std.specs.Prelude.{◌≡◌, ℕ, ◌^◌, ◌<◌, ◌==◌, List, [], ◌∷◌, Some, None, Option, Ok, codes}
use Rattle.std.specs.List.{slice_split}
use Rattle.std.specs.Str.Parse.{IsNumeral, digits_value, without_leading_plus}
use Rattle.hex.specs.Hex.{decode_of}
use Rattle.mysql.specs.declared.backend.MysqlType.{MysqlType}
use Rattle.mysql.specs.Kept.{row_of}
use Rattle.recorded.specs.declared.question.Kind.{Kind}
use Rattle.recorded.specs.declared.question.Kind.TheVariants as kind
use Rattle.recorded.specs.declared.question.Question.{Question}
use Rattle.recorded.specs.declared.question.Question.TheVariants as question
use Rattle.recorded.specs.Kinds.{word_of, kind_of}
use Rattle.recorded.specs.Lines.{text_of, Cuts}

-- what a word stands for
pub data Field : Type 0 where
  a_type : MysqlType → Field
  -- a number of so many bits
  a_number : (bits n : ℕ) → Field
  some_bytes : List ℕ → Field
  -- none where it is null
  a_value : Option (List ℕ) → Field
  the_wanted : List (Option MysqlType) → Field

pub data Shape : Type 0 where
  of_type : Shape
  of_number : (bits : ℕ) → Shape
  of_bytes : Shape
  of_value : Shape
  of_wanted : Shape

abbrev pub shape_of : Field → Shape
shape_of (a_type t) = of_type
shape_of (a_number bits n) = of_number bits
shape_of (some_bytes bytes) = of_bytes
shape_of (a_value value) = of_value
shape_of (the_wanted wanted) = of_wanted

-- a decimal number that fits; a plus or zeros may stand before it
abbrev pub Numeral : (word : List ℕ) → (bits n : ℕ) → Type 0
Numeral word bits n = IsNumeral 10 (without_leading_plus word) × (digits_value 10 (without_leading_plus word) ≡ n) × (n < 2 ^ bits)

-- bytes in hexadecimal; a dash is none
abbrev pub Writes : (word bytes : List ℕ) → Type 0
Writes word [] = word ≡ codes "-"
Writes word (b ∷ bs) = decode_of word ≡ Ok (b ∷ bs)

-- a wanted type by its number; an underscore is none
abbrev pub Entry : (word : List ℕ) → Option MysqlType → Type 0
Entry word None = word ≡ codes "_"
Entry word (Some t) = Numeral word 8 (row_of t)

abbrev pub Entries : (words : List (List ℕ)) → List (Option MysqlType) → Type 0
Entries [] [] = Unit {0}
Entries [] (x ∷ xs) = ⊥
Entries (w ∷ ws) [] = ⊥
Entries (w ∷ ws) (x ∷ xs) = Entry w x × Entries ws xs

-- entries with a comma between each two; a dash is the empty list
abbrev pub Lists : (word : List ℕ) → List (Option MysqlType) → Type 0
Lists word [] = word ≡ codes "-"
Lists word (x ∷ xs) = Entries (slice_split (λ c. c == 44) word) (x ∷ xs)

abbrev pub Spelled : (word : List ℕ) → Field → Type 0
Spelled word (a_type t) = Numeral word 8 (row_of t)
Spelled word (a_number bits n) = Numeral word bits n
Spelled word (some_bytes bytes) = Writes word bytes
Spelled word (a_value None) = word ≡ codes "null"
Spelled word (a_value (Some bytes)) = Writes word bytes
Spelled word (the_wanted wanted) = Lists word wanted

-- what the words of a question stand for, in their order
abbrev pub fields_of : Question → List Field
fields_of (question.Asks t) = a_type t ∷ []
fields_of (question.Type code flags) = a_number 8 code ∷ a_number 32 flags ∷ []
fields_of (question.Size code) = a_number 8 code ∷ []
fields_of (question.Kept t code) = a_type t ∷ a_number 8 code ∷ []
fields_of (question.Keeps t) = a_type t ∷ []
fields_of (question.Flags flags) = a_number 32 flags ∷ []
fields_of (question.Kind n) = a_number 16 n ∷ []
fields_of (question.Int t value) = a_type t ∷ a_value (text_of value) ∷ []
fields_of (question.Big t value) = a_type t ∷ a_value (text_of value) ∷ []
fields_of (question.Time t value) = a_type t ∷ a_value (text_of value) ∷ []
fields_of (question.Tape wanted bytes) = the_wanted wanted.now ∷ some_bytes bytes.now ∷ []
fields_of (question.Tray rows wanted) = a_number 16 rows ∷ the_wanted wanted.now ∷ []

abbrev pub shapes : Kind → List Shape
shapes kind.Asks = of_type ∷ []
shapes kind.Type = of_number 8 ∷ of_number 32 ∷ []
shapes kind.Size = of_number 8 ∷ []
shapes kind.Kept = of_type ∷ of_number 8 ∷ []
shapes kind.Keeps = of_type ∷ []
shapes kind.Flags = of_number 32 ∷ []
shapes kind.Kind = of_number 16 ∷ []
shapes kind.Int = of_type ∷ of_value ∷ []
shapes kind.Big = of_type ∷ of_value ∷ []
shapes kind.Time = of_type ∷ of_value ∷ []
shapes kind.Tape = of_wanted ∷ of_bytes ∷ []
shapes kind.Tray = of_number 16 ∷ of_wanted ∷ []

-- the next word stands for a field
pub record Next (before : Option (List ℕ)) (field : Field) (after : Option (List ℕ)) : Type 0 where
  pub word : List ℕ
  pub cut : Cuts before word after
  pub spelled : Spelled word field

-- the next words stand for fields
abbrev pub Spells : (before : Option (List ℕ)) → List Field → (after : Option (List ℕ)) → Type 0
Spells before [] after = before ≡ after
Spells before (f ∷ fs) after = (middle : Option (List ℕ)) × Next before f middle × Spells middle fs after

-- a line spells a question, and this answer comes after it
abbrev pub LineSpells : (line : List ℕ) → Question → (answer : List ℕ) → Type 0
LineSpells line q answer = (rest : Option (List ℕ)) × Cuts (Some line) (word_of (kind_of q)) rest × Spells rest (fields_of q) (Some answer)
