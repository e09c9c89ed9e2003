-- A word stands for one thing of a shape at most, and a line spells one question at most.
use Rattle.std.proofs.Common.{◌≡◌, ◌≢◌, ◌==◌, ℕ, cond, eqb, ◌+◌, ◌*◌, List, [], ◌∷◌, ◌++◌, map, get_or, Some, None, Option, codes, refl, arith, sym, ap, ◌∙◌, subst}
use Rattle.std.specs.List.{All, slice_split}
use Rattle.std.specs.Str.Parse.{IsNumeral, without_leading_plus}
use Rattle.std.proofs.lemmas.List.Elements.{All-head, All-tail}
use Rattle.hex.specs.Hex.{decode_pairs}
use Rattle.mysql.specs.declared.backend.MysqlType.{MysqlType}
use Rattle.mysql.specs.declared.backend.MysqlType.TheVariants as type
use Rattle.mysql.specs.Kept.{row_of, types}
use Rattle.recorded.specs.declared.question.Kind.{Kind}
use Rattle.recorded.specs.declared.question.Kind.TheVariants as kind
use Rattle.recorded.specs.declared.question.Question.{Question}
use Rattle.recorded.specs.declared.question.Question.TheVariants as question
use Rattle.recorded.specs.Kinds.{word_of, kind_of}
use Rattle.recorded.specs.Lines.{CutFrom, Cuts}
use Rattle.recorded.specs.Grammar.{Field, a_type, a_number, some_bytes, a_value, the_wanted, shape_of, Numeral, Entry, Entries, Lists, Writes, Spelled, fields_of, shapes, Next, Spells}

-- the types by their numbers
type_at : ℕ → MysqlType
type_at n = get_or types n type.Tiny

at_row : (t : MysqlType) → type_at (row_of t) ≡ t
unfolding type_at
at_row type.Tiny = refl
at_row type.UnsignedTiny = refl
at_row type.Short = refl
at_row type.UnsignedShort = refl
at_row type.Long = refl
at_row type.UnsignedLong = refl
at_row type.LongLong = refl
at_row type.UnsignedLongLong = refl
at_row type.Float = refl
at_row type.Double = refl
at_row type.Numeric = refl
at_row type.Time = refl
at_row type.Date = refl
at_row type.DateTime = refl
at_row type.Timestamp = refl
at_row type.String = refl
at_row type.Blob = refl
at_row type.Bit = refl
at_row type.Set = refl
at_row type.Enum = refl

row_same : (t u : MysqlType) → row_of t ≡ row_of u → t ≡ u
row_same t u e = sym (at_row t) ∙ ap type_at e ∙ at_row u

-- the kinds by their words' first letters
letters : List ℕ → ℕ
letters w = get_or w 0 0 + 256 * get_or w 1 0 + 65536 * get_or w 2 0 + 16777216 * get_or w 3 0

kind_at : ℕ → Kind
kind_at n =
    cond (eqb n (letters (codes "asks"))) kind.Asks (cond (eqb n (letters (codes "type"))) kind.Type (cond (eqb n (letters (codes "size"))) kind.Size (cond (eqb n (letters (codes "kept"))) kind.Kept
    (cond (eqb n (letters (codes "keeps"))) kind.Keeps (cond (eqb n (letters (codes "flags"))) kind.Flags (cond (eqb n (letters (codes "kind"))) kind.Kind (cond (eqb n (letters (codes "int"))) kind.Int
    (cond (eqb n (letters (codes "big"))) kind.Big (cond (eqb n (letters (codes "time"))) kind.Time (cond (eqb n (letters (codes "tape"))) kind.Tape kind.Tray))))))))))

at_word : (k : Kind) → kind_at (letters (word_of k)) ≡ k
unfolding kind_at letters
at_word kind.Asks = refl
at_word kind.Type = refl
at_word kind.Size = refl
at_word kind.Kept = refl
at_word kind.Keeps = refl
at_word kind.Flags = refl
at_word kind.Kind = refl
at_word kind.Int = refl
at_word kind.Big = refl
at_word kind.Time = refl
at_word kind.Tape = refl
at_word kind.Tray = refl

pub word_same : (k l : Kind) → word_of k ≡ word_of l → k ≡ l
word_same k l e = sym (at_word k) ∙ ap (λ w. kind_at (letters w)) e ∙ at_word l

pub fields_fit : (q : Question) → map shape_of (fields_of q) ≡ shapes (kind_of q)
fields_fit (question.Asks t) = refl
fields_fit (question.Type code flags) = refl
fields_fit (question.Size code) = refl
fields_fit (question.Kept t code) = refl
fields_fit (question.Keeps t) = refl
fields_fit (question.Flags flags) = refl
fields_fit (question.Kind n) = refl
fields_fit (question.Int t value) = refl
fields_fit (question.Big t value) = refl
fields_fit (question.Time t value) = refl
fields_fit (question.Tape wanted bytes) = refl
fields_fit (question.Tray rows wanted) = refl

abbrev not_space : ℕ → Type 0
not_space c = c ≢ 32

spaced : (w v r : List ℕ) → All not_space w → w ≡ v ++ 32 ∷ r → ⊥
spaced [] [] r h e = cc
spaced [] (y ∷ ys) r h e = cc
spaced (x ∷ xs) [] r h e = let i : x ≡ 32 = cc in absurd (All-head not_space x xs h i)
spaced (x ∷ xs) (y ∷ ys) r h e = spaced xs ys r (All-tail not_space x xs h) cc

split_same : (w v r s : List ℕ) → All not_space w → All not_space v → w ++ 32 ∷ r ≡ v ++ 32 ∷ s → (w ≡ v) × (r ≡ s)
split_same [] [] r s h k e = (refl, cc)
split_same [] (y ∷ ys) r s h k e = let i : y ≡ 32 = cc in absurd (All-head not_space y ys k i)
split_same (x ∷ xs) [] r s h k e = let i : x ≡ 32 = cc in absurd (All-head not_space x xs h i)
split_same (x ∷ xs) (y ∷ ys) r s h k e = let i = split_same xs ys r s (All-tail not_space x xs h) (All-tail not_space y ys k) cc in let a = i.0 in (cc, i.1)

from_same : (line w v : List ℕ) (a b : Option (List ℕ)) → CutFrom line w a → CutFrom line v b → All not_space w → All not_space v → (w ≡ v) × (a ≡ b)
from_same line w v None None c d h k = (sym c ∙ d, refl)
from_same line w v None (Some s) c d h k = absurd (spaced w v s h (sym c ∙ d))
from_same line w v (Some r) None c d h k = absurd (spaced v w r k (sym d ∙ c))
from_same line w v (Some r) (Some s) c d h k = let i = split_same w v r s h k (sym c ∙ d) in (i.0, ap Some i.1)

-- a line is cut in one way
pub cuts_same : (before a b : Option (List ℕ)) (w v : List ℕ) → Cuts before w a → Cuts before v b → (w ≡ v) × (a ≡ b)
cuts_same before a b w v c d =
    let one = c.was in
    let two = d.was in
    let e : c.line ≡ d.line = cc in
    from_same d.line w v a b (subst (λ (l : List ℕ). CutFrom l w a) e c.cut) d.cut c.no_space d.no_space

numeral_same : (w : List ℕ) (bits m n : ℕ) → Numeral w bits m → Numeral w bits n → m ≡ n
numeral_same w bits m n h k = sym h.1 ∙ k.1

no_numeral : (w v : List ℕ) → w ≡ v → (IsNumeral 10 (without_leading_plus v) → ⊥) → IsNumeral 10 (without_leading_plus w) → ⊥
no_numeral w v e n h = n (subst (λ (u : List ℕ). IsNumeral 10 (without_leading_plus u)) e h)

no_dash : IsNumeral 10 (without_leading_plus (codes "-")) → ⊥
no_dash h = let d = h.1.0 in omega (arith, d)

no_bar : IsNumeral 10 (without_leading_plus (codes "_")) → ⊥
no_bar h = let d = h.1.0 in omega (arith, d)

entry_same : (w : List ℕ) (x y : Option MysqlType) → Entry w x → Entry w y → x ≡ y
entry_same w None None h k = refl
entry_same w None (Some u) h k = absurd (no_numeral w (codes "_") h no_bar k.0)
entry_same w (Some t) None h k = absurd (no_numeral w (codes "_") k no_bar h.0)
entry_same w (Some t) (Some u) h k = ap Some (row_same t u (numeral_same w 8 (row_of t) (row_of u) h k))

entries_same : (ws : List (List ℕ)) (xs ys : List (Option MysqlType)) → Entries ws xs → Entries ws ys → xs ≡ ys
entries_same [] [] [] h k = refl
entries_same [] [] (y ∷ ys) h k = absurd k
entries_same [] (x ∷ xs) ys h k = absurd h
entries_same (w ∷ ws) [] ys h k = absurd h
entries_same (w ∷ ws) (x ∷ xs) [] h k = absurd k
entries_same (w ∷ ws) (x ∷ xs) (y ∷ ys) h k = let a = entry_same w x y h.0 k.0 in let b = entries_same ws xs ys h.1 k.1 in cc

dash_entry : (w : List ℕ) (x : Option MysqlType) → w ≡ codes "-" → Entry w x → ⊥
dash_entry w None e h = let i : ◌≡◌ {A = ℕ} 45 95 = ap (λ v. get_or v 0 0) (sym e ∙ h) in absurd (omega (arith, i))
dash_entry w (Some t) e h = no_numeral w (codes "-") e no_dash h.0

dash_list : (w : List ℕ) (x : Option MysqlType) (xs : List (Option MysqlType)) → w ≡ codes "-" → Lists w (x ∷ xs) → ⊥
dash_list w x xs e h =
    let one : slice_split (λ c. c == 44) (codes "-") ≡ codes "-" ∷ [] = refl in
    let parts : slice_split (λ c. c == 44) w ≡ w ∷ [] = ap (slice_split (λ c. c == 44)) e ∙ one ∙ ap (λ (v : List ℕ). v ∷ []) (sym e) in
    dash_entry w x e (subst (λ (ws : List (List ℕ)). Entries ws (x ∷ xs)) parts h).0

lists_same : (w : List ℕ) (xs ys : List (Option MysqlType)) → Lists w xs → Lists w ys → xs ≡ ys
lists_same w [] [] h k = refl
lists_same w [] (y ∷ ys) h k = absurd (dash_list w y ys h k)
lists_same w (x ∷ xs) [] h k = absurd (dash_list w x xs k h)
lists_same w (x ∷ xs) (y ∷ ys) h k = entries_same (slice_split (λ c. c == 44) w) (x ∷ xs) (y ∷ ys) h k

dash_bytes : (w : List ℕ) (b : ℕ) (bs : List ℕ) → w ≡ codes "-" → Writes w (b ∷ bs) → ⊥
dash_bytes w b bs e h = let k = subst (λ (v : List ℕ). Writes v (b ∷ bs)) e h in cc

null_bytes : (bs : List ℕ) → Writes (codes "null") bs → ⊥
unfolding decode_pairs
null_bytes [] h = cc
null_bytes (b ∷ bs) h = cc

writes_same : (w bs cs : List ℕ) → Writes w bs → Writes w cs → bs ≡ cs
writes_same w [] [] h k = refl
writes_same w [] (c ∷ cs) h k = absurd (dash_bytes w c cs h k)
writes_same w (b ∷ bs) [] h k = absurd (dash_bytes w b bs k h)
writes_same w (b ∷ bs) (c ∷ cs) h k = let e = sym h ∙ k in cc

null_value : (w bs : List ℕ) → w ≡ codes "null" → Writes w bs → ⊥
null_value w bs e h = null_bytes bs (subst (λ (v : List ℕ). Writes v bs) e h)

value_same : (w : List ℕ) (a b : Option (List ℕ)) → Spelled w (a_value a) → Spelled w (a_value b) → a ≡ b
value_same w None None h k = refl
value_same w None (Some cs) h k = absurd (null_value w cs h k)
value_same w (Some bs) None h k = absurd (null_value w bs k h)
value_same w (Some bs) (Some cs) h k = ap Some (writes_same w bs cs h k)

-- a word stands for one thing of a shape
pub field_same : (w : List ℕ) (f g : Field) → shape_of f ≡ shape_of g → Spelled w f → Spelled w g → f ≡ g
field_same w (a_type t) (a_type u) e h k = ap a_type (row_same t u (numeral_same w 8 (row_of t) (row_of u) h k))
field_same w (a_number a m) (a_number b n) e h k = let i : a ≡ b = cc in let j = numeral_same w b m n (subst (λ c. Numeral w c m) i h) k in cc
field_same w (some_bytes bs) (some_bytes cs) e h k = ap some_bytes (writes_same w bs cs h k)
field_same w (a_value a) (a_value b) e h k = ap a_value (value_same w a b h k)
field_same w (the_wanted xs) (the_wanted ys) e h k = ap the_wanted (lists_same w xs ys h k)
field_same w (a_type t) (a_number b n) e h k = cc
field_same w (a_type t) (some_bytes cs) e h k = cc
field_same w (a_type t) (a_value b) e h k = cc
field_same w (a_type t) (the_wanted ys) e h k = cc
field_same w (a_number a m) (a_type u) e h k = cc
field_same w (a_number a m) (some_bytes cs) e h k = cc
field_same w (a_number a m) (a_value b) e h k = cc
field_same w (a_number a m) (the_wanted ys) e h k = cc
field_same w (some_bytes bs) (a_type u) e h k = cc
field_same w (some_bytes bs) (a_number b n) e h k = cc
field_same w (some_bytes bs) (a_value b) e h k = cc
field_same w (some_bytes bs) (the_wanted ys) e h k = cc
field_same w (a_value a) (a_type u) e h k = cc
field_same w (a_value a) (a_number b n) e h k = cc
field_same w (a_value a) (some_bytes cs) e h k = cc
field_same w (a_value a) (the_wanted ys) e h k = cc
field_same w (the_wanted xs) (a_type u) e h k = cc
field_same w (the_wanted xs) (a_number b n) e h k = cc
field_same w (the_wanted xs) (some_bytes cs) e h k = cc
field_same w (the_wanted xs) (a_value b) e h k = cc

pub next_same : (before a b : Option (List ℕ)) (f g : Field) → shape_of f ≡ shape_of g → Next before f a → Next before g b → (f ≡ g) × (a ≡ b)
next_same before a b f g e h k =
    let i = cuts_same before a b h.word k.word h.cut k.cut in
    (field_same k.word f g e (subst (λ (w : List ℕ). Spelled w f) i.0 h.spelled) k.spelled, i.1)

pub spells_same : (before a b : Option (List ℕ)) (fs gs : List Field) → map shape_of fs ≡ map shape_of gs → Spells before fs a → Spells before gs b → (fs ≡ gs) × (a ≡ b)
spells_same before a b [] [] e h k = (refl, sym h ∙ k)
spells_same before a b [] (g ∷ gs) e h k = cc
spells_same before a b (f ∷ fs) [] e h k = cc
spells_same before a b (f ∷ fs) (g ∷ gs) e h k =
    let s : shape_of f ≡ shape_of g = cc in
    let t : map shape_of fs ≡ map shape_of gs = cc in
    let i = next_same before h.0 k.0 f g s h.1 k.1 in
    let j = spells_same k.0 a b fs gs t (subst (λ (m : Option (List ℕ)). Spells m fs a) i.1 h.2) k.2 in
    let one = i.0 in
    let more = j.0 in
    (cc, j.1)
