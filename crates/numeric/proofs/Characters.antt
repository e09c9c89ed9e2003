-- The grammar's characters are the encodings of the scalar values, so that the grammar's UTF-8 is the library's.
-- Assumes nothing.
use Rattle.std.proofs.Common.{◌≡◌, Bool, ℕ, ◌+◌, ◌-◌, ◌*◌, ◌/◌, ◌<◌, ◌≤◌, true, false, ◌&&◌, ◌||◌, ◌⊎◌, List, [], ◌∷◌, ◌++◌, IsUtf8, sym, refl, ◌∙◌, subst, inl, inr, ⊎_elim, arith}
use lib.Utf8.{scalar, scalars, encode, encodes, next, scalar_cases}
use Rattle.std.proofs.lemmas.Bool.{cases_Bool, cases_lt, lt-ltb, le-ltb, and_parts, or_cases, or_right}
use Rattle.std.proofs.lemmas.Str.{IsUtf8-nil, IsUtf8-append, IsUtf8-encode}
use Rattle.std.proofs.lemmas.Bool.Decides.{nat_tests}
use Rattle.numeric.specs.Utf8.{one, two, three, four, utf8}

-- what an encoding is, by the size of the scalar value

encode_1 : (c : ℕ) → c < 128 → encode c ≡ c ∷ []
unfolding encode
encode_1 c h = rw (lt-ltb c 128 h)

encode_2 : (c : ℕ) → 128 ≤ c → c < 2048 → encode c ≡ (192 + c / 64) ∷ next c ∷ []
unfolding encode
encode_2 c l h = rw (le-ltb c 128 l, lt-ltb c 2048 h)

encode_3 : (c : ℕ) → 2048 ≤ c → c < 65536 → encode c ≡ (224 + c / 4096) ∷ next (c / 64) ∷ next c ∷ []
unfolding encode
encode_3 c l h = let k : 128 ≤ c = omega arith in rw (le-ltb c 128 k, le-ltb c 2048 l, lt-ltb c 65536 h)

encode_4 : (c : ℕ) → 65536 ≤ c → encode c ≡ (240 + c / 262144) ∷ next (c / 4096) ∷ next (c / 64) ∷ next c ∷ []
unfolding encode
encode_4 c l = let j : 128 ≤ c = omega arith in let k : 2048 ≤ c = omega arith in rw (le-ltb c 128 j, le-ltb c 2048 k, le-ltb c 65536 l)

-- the tests of the grammar, and what they tell

is_two : (a b : ℕ) → 194 ≤ a → a ≤ 223 → 128 ≤ b → b ≤ 191 → two a b ≡ true
is_two a b h k l m = grind (arith, nat_tests)

-- the first two bytes of a character of three, and of four: what they stand for together
is_three : (a b c : ℕ) → 224 ≤ a → a ≤ 239 → 128 ≤ b → b ≤ 191 → 128 ≤ c → c ≤ 191
    → 32 ≤ (a - 224) * 64 + (b - 128) → ((a - 224) * 64 + (b - 128) < 864) ⊎ (896 ≤ (a - 224) * 64 + (b - 128)) → three a b c ≡ true
is_three a b c h k l m n o p (inl q) = grind (arith, nat_tests)
is_three a b c h k l m n o p (inr q) = grind (arith, nat_tests)

is_four : (a b c d : ℕ) → 240 ≤ a → a ≤ 244 → 128 ≤ b → b ≤ 191 → 128 ≤ c → c ≤ 191 → 128 ≤ d → d ≤ 191
    → 16 ≤ (a - 240) * 64 + (b - 128) → (a - 240) * 64 + (b - 128) < 272 → four a b c d ≡ true
is_four a b c d h k l m n o p q s t = grind (arith, nat_tests)

-- a character and then UTF-8 is UTF-8

or_true : (b : Bool) → (b || true) ≡ true
or_true b = or_right b true refl

pub add_1 : (a : ℕ) (r : List ℕ) → one a ≡ true → utf8 r ≡ true → utf8 (a ∷ r) ≡ true
add_1 a [] h k = h
add_1 a (b ∷ []) h k = rw (h, k)
add_1 a (b ∷ c ∷ []) h k = rw (h, k)
add_1 a (b ∷ c ∷ d ∷ r) h k = rw (h, k)

add_2 : (a b : ℕ) (r : List ℕ) → two a b ≡ true → utf8 r ≡ true → utf8 (a ∷ b ∷ r) ≡ true
add_2 a b [] h k = simp (h, or_true)
add_2 a b (c ∷ []) h k = simp (h, k, or_true)
add_2 a b (c ∷ d ∷ r) h k = simp (h, k, or_true)

add_3 : (a b c : ℕ) (r : List ℕ) → three a b c ≡ true → utf8 r ≡ true → utf8 (a ∷ b ∷ c ∷ r) ≡ true
add_3 a b c [] h k = simp (h, or_true)
add_3 a b c (d ∷ r) h k = simp (h, k, or_true)

add_4 : (a b c d : ℕ) (r : List ℕ) → four a b c d ≡ true → utf8 r ≡ true → utf8 (a ∷ b ∷ c ∷ d ∷ r) ≡ true
add_4 a b c d r h k = simp (h, k, or_true)

pub is_one : (a : ℕ) → a < 128 → one a ≡ true
is_one a h = grind (arith, nat_tests)

parts : (c : ℕ) → (c < 55296) ⊎ ((57344 ≤ c) × (c < 1114112)) → c < 1114112
parts c (inl h) = omega arith
parts c (inr h) = h.1

no_surrogate_of : (c : ℕ) → (c < 55296) ⊎ ((57344 ≤ c) × (c < 1114112)) → (c / 64 < 864) ⊎ (896 ≤ c / 64)
no_surrogate_of c (inl h) = inl (omega arith)
no_surrogate_of c (inr h) = inr (omega arith)

starts : (c : ℕ) (r : List ℕ) → scalar c ≡ true → utf8 r ≡ true → utf8 (encode c ++ r) ≡ true
starts c r s k =
    let top : c < 1114112 = parts c (scalar_cases c s) in
    let none = no_surrogate_of c (scalar_cases c s) in
    ⊎_elim
    (λ (h : c < 128). rw (encode_1 c h) (add_1 c r (is_one c h) k))
    (λ (l : 128 ≤ c). ⊎_elim
    (λ (h : c < 2048). rw (encode_2 c l h) (add_2 (192 + c / 64) (next c) r (is_two (192 + c / 64) (next c) (omega arith) (omega arith) (omega arith) (omega arith)) k))
    (λ (m : 2048 ≤ c). ⊎_elim
    (λ (h : c < 65536).
    let x : (224 + c / 4096 - 224) * 64 + (next (c / 64) - 128) ≡ c / 64 = omega arith in
    let P : ℕ → Type 0 = λ v. (v < 864) ⊎ (896 ≤ v) in
    rw (encode_3 c m h) (add_3 (224 + c / 4096) (next (c / 64)) (next c) r
    (is_three (224 + c / 4096) (next (c / 64)) (next c) (omega arith) (omega arith) (omega arith) (omega arith) (omega arith) (omega arith) (omega arith) (subst P (sym x) none)) k))
    (λ (n : 65536 ≤ c).
    rw (encode_4 c n) (add_4 (240 + c / 262144) (next (c / 4096)) (next (c / 64)) (next c) r
    (is_four (240 + c / 262144) (next (c / 4096)) (next (c / 64)) (next c) (omega arith) (omega arith) (omega arith) (omega arith) (omega arith) (omega arith) (omega arith) (omega arith) (omega arith) (omega arith)) k))
    (cases_lt c 65536))
    (cases_lt c 2048))
    (cases_lt c 128)

-- and back: each character of the grammar is the encoding of a scalar value

scalar_low : (c : ℕ) → c < 55296 → scalar c ≡ true
scalar_low c h = rw (lt-ltb c 55296 h)

scalar_high : (c : ℕ) → 57344 ≤ c → c < 1114112 → scalar c ≡ true
scalar_high c h k = grind (arith, nat_tests)

character : (v : ℕ) (s : List ℕ) → scalar v ≡ true → encode v ≡ s → IsUtf8 s
character v s h e = subst IsUtf8 e (IsUtf8-encode v h)

character_1 : (a : ℕ) → one a ≡ true → IsUtf8 (a ∷ [])
character_1 a e = let h : a < 128 = grind (arith, nat_tests) in character a _ (scalar_low a (omega arith)) (encode_1 a h)

character_2 : (a b : ℕ) → two a b ≡ true → IsUtf8 (a ∷ b ∷ [])
character_2 a b e =
    let p : 194 ≤ a = grind (arith, nat_tests) in
    let q : a ≤ 223 = grind (arith, nat_tests) in
    let r : 128 ≤ b = grind (arith, nat_tests) in
    let s : b ≤ 191 = grind (arith, nat_tests) in
    let c : ℕ = (a - 192) * 64 + (b - 128) in
    let x : 192 + c / 64 ≡ a = omega arith in
    let y : next c ≡ b = omega arith in
    character c _ (scalar_low c (omega arith)) (encode_2 c (omega arith) (omega arith) ∙ cc)

scalar_3 : (a b c : ℕ) → three a b c ≡ true → scalar ((a - 224) * 4096 + (b - 128) * 64 + (c - 128)) ≡ true
scalar_3 a b c e = grind (arith, nat_tests)

character_3 : (a b c : ℕ) → three a b c ≡ true → IsUtf8 (a ∷ b ∷ c ∷ [])
character_3 a b c e =
    let al : 224 ≤ a = grind (arith, nat_tests) in
    let ah : a ≤ 239 = grind (arith, nat_tests) in
    let bl : 128 ≤ b = grind (arith, nat_tests) in
    let bh : b ≤ 191 = grind (arith, nat_tests) in
    let cl : 128 ≤ c = grind (arith, nat_tests) in
    let ch : c ≤ 191 = grind (arith, nat_tests) in
    let shortest : 32 ≤ (a - 224) * 64 + (b - 128) = grind (arith, nat_tests) in
    let v : ℕ = (a - 224) * 4096 + (b - 128) * 64 + (c - 128) in
    let l : 2048 ≤ v = omega arith in
    let h : v < 65536 = omega arith in
    let x : 224 + v / 4096 ≡ a = omega arith in
    let y : next (v / 64) ≡ b = omega arith in
    let z : next v ≡ c = omega arith in
    character v _ (scalar_3 a b c e) (encode_3 v l h ∙ cc)

low_4 : (a b c d : ℕ) → 16 ≤ (a - 240) * 64 + (b - 128) → 65536 ≤ (a - 240) * 262144 + (b - 128) * 4096 + (c - 128) * 64 + (d - 128)
low_4 a b c d h = omega arith

high_4 : (a b c d : ℕ) → (a - 240) * 64 + (b - 128) < 272 → c ≤ 191 → d ≤ 191 → (a - 240) * 262144 + (b - 128) * 4096 + (c - 128) * 64 + (d - 128) < 1114112
high_4 a b c d h k l = omega arith

above_57344 : (v : ℕ) → 65536 ≤ v → 57344 ≤ v
above_57344 v h = omega arith

character_4 : (a b c d : ℕ) → four a b c d ≡ true → IsUtf8 (a ∷ b ∷ c ∷ d ∷ [])
character_4 a b c d e =
    let p : 240 ≤ a = grind (arith, nat_tests) in
    let q : a ≤ 244 = grind (arith, nat_tests) in
    let r : 128 ≤ b = grind (arith, nat_tests) in
    let s : b ≤ 191 = grind (arith, nat_tests) in
    let cl : 128 ≤ c = grind (arith, nat_tests) in
    let ch : c ≤ 191 = grind (arith, nat_tests) in
    let dl : 128 ≤ d = grind (arith, nat_tests) in
    let dh : d ≤ 191 = grind (arith, nat_tests) in
    let low : 16 ≤ (a - 240) * 64 + (b - 128) = grind (arith, nat_tests) in
    let high : (a - 240) * 64 + (b - 128) < 272 = grind (arith, nat_tests) in
    let v : ℕ = (a - 240) * 262144 + (b - 128) * 4096 + (c - 128) * 64 + (d - 128) in
    let i : v / 64 ≡ (a - 240) * 4096 + (b - 128) * 64 + (c - 128) = omega arith in
    let j : v / 4096 ≡ (a - 240) * 64 + (b - 128) = omega arith in
    let w : 240 + v / 262144 ≡ a = omega arith in
    let x : next (v / 4096) ≡ b = rw j (omega arith) in
    let y : next (v / 64) ≡ c = rw i (omega arith) in
    let z : next v ≡ d = omega arith in
    character v _ (scalar_high v (above_57344 v (low_4 a b c d low)) (high_4 a b c d high ch dh)) (encode_4 v (low_4 a b c d low) ∙ cc)

-- the two are the same

to_grammar : (cs : List ℕ) → scalars cs ≡ true → utf8 (encodes cs) ≡ true
to_grammar [] e = refl
to_grammar (c ∷ cs) e = let p = and_parts (scalar c) (scalars cs) e in starts c (encodes cs) p.0 (to_grammar cs p.1)

pub in_grammar : (bs : List ℕ) → IsUtf8 bs → utf8 bs ≡ true
in_grammar bs u = subst (λ (t : List ℕ). utf8 t ≡ true) u.1.1 (to_grammar u.0 u.1.0)

pub from_grammar : (bs : List ℕ) → utf8 bs ≡ true → IsUtf8 bs
from_grammar [] e = IsUtf8-nil
from_grammar (a ∷ []) e = IsUtf8-append (a ∷ []) [] (character_1 a e) (from_grammar [] refl)
from_grammar (a ∷ b ∷ []) e =
    ⊎_elim
    (λ h. let p = and_parts (one a) (utf8 (b ∷ [])) h in IsUtf8-append (a ∷ []) (b ∷ []) (character_1 a p.0) (from_grammar (b ∷ []) p.1))
    (λ h. IsUtf8-append (a ∷ b ∷ []) [] (character_2 a b h) (from_grammar [] refl))
    (or_cases (one a && utf8 (b ∷ [])) (two a b) e)
from_grammar (a ∷ b ∷ c ∷ []) e =
    ⊎_elim
    (λ h. let p = and_parts (one a) (utf8 (b ∷ c ∷ [])) h in IsUtf8-append (a ∷ []) (b ∷ c ∷ []) (character_1 a p.0) (from_grammar (b ∷ c ∷ []) p.1))
    (λ g. ⊎_elim
    (λ h. let p = and_parts (two a b) (utf8 (c ∷ [])) h in IsUtf8-append (a ∷ b ∷ []) (c ∷ []) (character_2 a b p.0) (from_grammar (c ∷ []) p.1))
    (λ h. IsUtf8-append (a ∷ b ∷ c ∷ []) [] (character_3 a b c h) (from_grammar [] refl))
    (or_cases (two a b && utf8 (c ∷ [])) (three a b c) g))
    (or_cases (one a && utf8 (b ∷ c ∷ [])) ((two a b && utf8 (c ∷ [])) || three a b c) e)
from_grammar (a ∷ b ∷ c ∷ d ∷ r) e =
    ⊎_elim
    (λ h. let p = and_parts (one a) (utf8 (b ∷ c ∷ d ∷ r)) h in IsUtf8-append (a ∷ []) (b ∷ c ∷ d ∷ r) (character_1 a p.0) (from_grammar (b ∷ c ∷ d ∷ r) p.1))
    (λ g. ⊎_elim
    (λ h. let p = and_parts (two a b) (utf8 (c ∷ d ∷ r)) h in IsUtf8-append (a ∷ b ∷ []) (c ∷ d ∷ r) (character_2 a b p.0) (from_grammar (c ∷ d ∷ r) p.1))
    (λ f. ⊎_elim
    (λ h. let p = and_parts (three a b c) (utf8 (d ∷ r)) h in IsUtf8-append (a ∷ b ∷ c ∷ []) (d ∷ r) (character_3 a b c p.0) (from_grammar (d ∷ r) p.1))
    (λ h. let p = and_parts (four a b c d) (utf8 r) h in IsUtf8-append (a ∷ b ∷ c ∷ d ∷ []) r (character_4 a b c d p.0) (from_grammar r p.1))
    (or_cases (three a b c && utf8 (d ∷ r)) (four a b c d && utf8 r) f))
    (or_cases (two a b && utf8 (c ∷ d ∷ r)) ((three a b c && utf8 (d ∷ r)) || (four a b c d && utf8 r)) g))
    (or_cases (one a && utf8 (b ∷ c ∷ d ∷ r)) ((two a b && utf8 (c ∷ d ∷ r)) || ((three a b c && utf8 (d ∷ r)) || (four a b c d && utf8 r))) e)

pub not_in_grammar : (bs : List ℕ) → (IsUtf8 bs → ⊥) → utf8 bs ≡ false
not_in_grammar bs n = ⊎_elim (λ e. absurd (n (from_grammar bs e))) (λ e. e) (cases_Bool (utf8 bs))
