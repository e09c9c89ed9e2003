-- A field that is not null, after its first byte.
-- Assumes nothing.
use Rattle.std.proofs.Common.{◌≡◌, ℕ, zero, suc, ◌^◌, ◌<◌, ◌≤◌, Bool, true, false, cond, eqb, List, [], ◌∷◌, ◌++◌, length, get_or, take, drop, Some, None, Option, ◌⊎◌, ⊎_elim, sym, refl, ap, ◌∙◌, subst, arith, lit<}
use Rattle.std.proofs.ByRecursion.{All-from_get_or}
use Rattle.std.proofs.lemmas.List.{length-append, length-take, take-append-drop}
use Rattle.mysql.specs.Ranges.{among}
use Rattle.mysql.specs.Types.{size_of}
use Rattle.host.specs.Fields.{Field, null, held, HeldAt, Bytes, FieldAt}
use Rattle.tape.specs.Format.{four, tag, field_bytes}
use Rattle.tape.specs.Steps.{Begins, NoneBegins}
use Rattle.tape.specs.Unique.{four_one}

pub slice_bytes : (bs : List ℕ) → ((i : ℕ) → get_or bs i 0 < 256) → Bytes bs
slice_bytes bs h = All-from_get_or (λ x. x < 256) bs 0 (λ i l. h i)

pub bytes_behind : (xs r : List ℕ) → Bytes (xs ++ r) → Bytes r
bytes_behind [] r h = h
bytes_behind (x ∷ xs) r h = bytes_behind xs r h.1

pub bytes_taken : (n : ℕ) (r : List ℕ) → Bytes r → Bytes (take n r)
bytes_taken zero r h = tt
bytes_taken (suc n) [] h = tt
bytes_taken (suc n) (x ∷ r) h = (h.0, bytes_taken n r h.1)

-- a code's size is small
size_by : (b : Bool) (n : ℕ) (s : Option ℕ) (size : ℕ) → n < 2 ^ 32 → (s ≡ Some size → size < 2 ^ 32) → cond b (Some n) s ≡ Some size → size < 2 ^ 32
size_by true n s size l h e = let z : n ≡ size = cc in omega arith
size_by false n s size l h e = h e

size_small : (code size : ℕ) → size_of code ≡ Some size → size < 2 ^ 32
size_small code size =
    size_by (eqb code 1) 1 _ size (lit< tt)
    (size_by (among (2 ∷ 13 ∷ []) code) 2 _ size (lit< tt)
    (size_by (among (3 ∷ 4 ∷ 9 ∷ []) code) 4 _ size (lit< tt)
    (size_by (among (5 ∷ 8 ∷ []) code) 8 _ size (lit< tt)
    (size_by (among (7 ∷ 10 ∷ 11 ∷ 12 ∷ []) code) 48 None size (lit< tt) (λ e. let z : ◌≡◌ {A = ℕ} 0 1 = cc in absurd (omega arith))))))

held_short : (s : Option ℕ) (lost : Bool) (bs : List ℕ) → ((size : ℕ) → s ≡ Some size → size < 2 ^ 32) → HeldAt s lost bs → length bs < 2 ^ 32
held_short (Some size) lost bs small h = let l = small size refl in omega arith
held_short None lost bs small h = h.1

-- what begins bytes after such a first byte
record Parts (code : ℕ) (lost : Bool) (bs rest : List ℕ) : Type 0 where
  bytes : List ℕ
  at : HeldAt (size_of code) lost bytes
  are : four (length bytes) ++ (bytes ++ rest) ≡ bs

held_parts : (code : ℕ) (lost : Bool) (bs : List ℕ) (f : Field) (rest : List ℕ) → FieldAt code f → field_bytes f ++ rest ≡ tag lost ∷ bs → Parts code lost bs rest
held_parts code false bs null rest h e = let z : ◌≡◌ {A = ℕ} 0 1 = cc in absurd (omega arith)
held_parts code true bs null rest h e = let z : ◌≡◌ {A = ℕ} 0 2 = cc in absurd (omega arith)
held_parts code false bs (held false b) rest h e = record { bytes = b; at = h.0; are = cc }
held_parts code true bs (held true b) rest h e = record { bytes = b; at = h.0; are = cc }
held_parts code false bs (held true b) rest h e = let z : ◌≡◌ {A = ℕ} 2 1 = cc in absurd (omega arith)
held_parts code true bs (held false b) rest h e = let z : ◌≡◌ {A = ℕ} 1 2 = cc in absurd (omega arith)

module _ (code : ℕ) (lost : Bool) (bs : List ℕ) where
  -- no length stands there
  pub no_length : NoneBegins (λ n. n < 2 ^ 32) four bs → NoneBegins (FieldAt code) field_bytes (tag lost ∷ bs)
  no_length none f rest h =
      let p = held_parts code lost bs f rest h.fits h.bytes_are in
      none (length p.bytes) (p.bytes ++ rest) (record { fits = held_short (size_of code) lost p.bytes (size_small code) p.at; bytes_are = p.are })

  module _ (n : ℕ) (r : List ℕ) (length_is : Begins (λ n. n < 2 ^ 32) four bs n r) where
    -- a length stands there, and the bytes that it tells of
    as_long : (f : Field) (rest : List ℕ) → Begins (FieldAt code) field_bytes (tag lost ∷ bs) f rest → (b : List ℕ) × HeldAt (size_of code) lost b × (length b ≡ n) × (n ≤ length r)
    as_long f rest h =
        let p = held_parts code lost bs f rest h.fits h.bytes_are in
        let o = four_one (length p.bytes) n (p.bytes ++ rest) r (p.are ∙ sym length_is.bytes_are) in
        let l : length p.bytes ≤ length r = omega (arith, length-append p.bytes rest, ap length o.1) in
        let e = o.0 in
        (p.bytes, p.at, e, omega arith)

    pub other_size : (size : ℕ) → size_of code ≡ Some size → (n ≡ size → ⊥) ⊎ ((n ≡ size) × (length r < size)) → NoneBegins (FieldAt code) field_bytes (tag lost ∷ bs)
    other_size size s h f rest k =
        let p = as_long f rest k in
        let at : length p.0 ≡ size = subst (λ o. HeldAt o lost p.0) s p.1 in
        let e = p.2 in
        let l = p.3 in
        ⊎_elim (λ a. a (omega arith)) (λ a. let b = a.1 in omega arith) h

    pub held_taken : (front back : List ℕ) → Bytes bs → n ≤ length r → front ≡ take n r → back ≡ drop n r → (length front ≡ n → HeldAt (size_of code) lost front)
        → Begins (FieldAt code) field_bytes (tag lost ∷ bs) (held lost front) back
    held_taken front back fit l f b at =
        let long : length front ≡ n = ap length f ∙ length-take n r ∙ omega arith in
        let whole : front ++ back ≡ r = ap (λ xs. xs ++ back) f ∙ ap (λ xs. take n r ++ xs) b ∙ take-append-drop n r in
        let behind : Bytes r = bytes_behind (four n) r (subst Bytes (sym length_is.bytes_are) fit) in
        record {
          fits = (at long, subst Bytes (sym f) (bytes_taken n r behind));
          bytes_are = ap (λ k. tag lost ∷ (four k ++ (front ++ back))) long ∙ ap (λ xs. tag lost ∷ (four n ++ xs)) whole ∙ ap (λ xs. tag lost ∷ xs) length_is.bytes_are;
        }
