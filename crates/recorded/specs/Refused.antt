-- Why a line is refused, with room for so many bytes and entries: because of the first word that is missing or stands for nothing.
use Rattle.std.specs.Prelude.{◌≡◌, ◌≢◌, ℕ, ◌≤◌, ◌⊎◌, List, [], ◌∷◌, length, map, Some, None, Option, Result, MatchResult}
use Rattle.recorded.specs.declared.unread.Unread.{Unread}
use Rattle.recorded.specs.declared.unread.Unread.TheVariants.{TooShort, NoNumber, NoType, NoBytes, UnknownKind, OutOfMemory}
use Rattle.recorded.specs.declared.question.Kind.{Kind}
use Rattle.recorded.specs.Kinds.{word_of}
use Rattle.recorded.specs.Lines.{Cuts}
use Rattle.recorded.specs.Grammar.{Field, Shape, of_type, of_number, of_bytes, of_value, of_wanted, shape_of, shapes, Spelled, Next, Spells}

abbrev pub IsReason : Shape → Unread → Type 0
IsReason of_type e = (e ≡ NoNumber) ⊎ (e ≡ NoType)
IsReason (of_number bits) e = e ≡ NoNumber
IsReason of_bytes e = e ≡ NoBytes
IsReason of_value e = e ≡ NoBytes
IsReason of_wanted e = (e ≡ NoNumber) ⊎ (e ≡ NoType)

-- a word stands for nothing of this shape, or is longer than the room
abbrev pub Misspelled : (room : ℕ) → (word : List ℕ) → Shape → Unread → Type 0
Misspelled room word shape e = (IsReason shape e × ((field : Field) → shape_of field ≡ shape → Spelled word field → ⊥)) ⊎ ((e ≡ OutOfMemory) × (room ≤ length word))

-- no word is left; or the next one is misspelled, and is taken off
abbrev pub Wrong : (room : ℕ) → (before : Option (List ℕ)) → Shape → Unread → (after : Option (List ℕ)) → Type 0
Wrong room before shape e after = ((e ≡ TooShort) × (before ≡ None) × (after ≡ None)) ⊎ ((word : List ℕ) × Cuts before word after × Misspelled room word shape e)

-- what comes of reading the next word, by the field that it stands for
abbrev pub Reads : {X : Type 0} → (X → Field) → Shape → (room : ℕ) → (before : Option (List ℕ)) → Result X Unread → (after : Option (List ℕ)) → Type 0
Reads field shape room before result after = MatchResult result (λ x. (shape_of (field x) ≡ shape) × Next before (field x) after) (λ e. Wrong room before shape e after)

-- the same of a word alone
abbrev pub ReadsWord : {X : Type 0} → (X → Field) → Shape → (room : ℕ) → (word : List ℕ) → Result X Unread → Type 0
ReadsWord field shape room word result = MatchResult result (λ x. Spelled word (field x)) (λ e. Misspelled room word shape e)

-- one of the next words is wrong, and those before it are not
abbrev pub Refused : (room : ℕ) → (before : Option (List ℕ)) → List Shape → Unread → (after : Option (List ℕ)) → Type 0
Refused room before [] e after = ⊥
Refused room before (shape ∷ shapes) e after = Wrong room before shape e after ⊎ ((field : Field) × (middle : Option (List ℕ)) × (shape_of field ≡ shape) × Next before field middle × Refused room middle shapes e after)

-- the first word is of no kind; or a later one is wrong; or no answer comes after them
abbrev pub LineRefused : (room : ℕ) → (line : List ℕ) → Unread → Type 0
LineRefused room line e =
    (word : List ℕ) × (rest : Option (List ℕ)) × Cuts (Some line) word rest
    × (((e ≡ UnknownKind) × ((kind : Kind) → word ≢ word_of kind))
    ⊎ ((kind : Kind) × (word ≡ word_of kind)
    × (((after : Option (List ℕ)) × Refused room rest (shapes kind) e after)
    ⊎ ((e ≡ TooShort) × ((fields : List Field) × (map shape_of fields ≡ shapes kind) × Spells rest fields None)))))
