-- What words stand for, and what they do not.
use Rattle.std.proofs.Common.{◌≡◌, ◌≢◌, ◌==◌, ℕ, zero, suc, Bool, ◌+◌, ◌<◌, ◌≤◌, List, [], ◌∷◌, ◌++◌, length, Some, None, Option, Ok, Err, Result, codes, refl, inl, inr, ⊎_elim, arith, get_or, sym, subst}
use Rattle.std.specs.List.{slice_split}
use Rattle.std.proofs.lemmas.List.Splits.{length-slice_split}
use Rattle.std.proofs.lemmas.List.Sums.{count_by-le-length}
use Rattle.hex.specs.Hex.{decode_pairs}
use Rattle.mysql.specs.declared.backend.MysqlType.{MysqlType}
use Rattle.recorded.specs.declared.unread.Unread.{Unread}
use Rattle.recorded.specs.declared.unread.Unread.TheVariants.{NoBytes}
use Rattle.recorded.specs.Lines.{Cuts}
use Rattle.recorded.specs.Grammar.{Field, a_type, a_number, some_bytes, a_value, the_wanted, Shape, of_type, of_bytes, of_value, of_wanted, shape_of, Entry, Entries, Lists, Writes, Spelled}
use Rattle.recorded.specs.Refused.{IsReason, Misspelled, Reads, ReadsWord}

-- a word that was read is the next one
pub reads_next : {X : Type 0} (field : X → Field) (shape : Shape) (room : ℕ) (before : Option (List ℕ)) (word : List ℕ) (after : Option (List ℕ)) (r : Result X Unread) → ((x : X) → shape_of (field x) ≡ shape)
    → Cuts before word after → ReadsWord field shape room word r → Reads field shape room before r after
reads_next field shape room before word after (Ok x) s c h = (s x, record { word = word; cut = c; spelled = h })
reads_next field shape room before word after (Err e) s c h = inr (word, c, h)

pub no_entry : (word : List ℕ) (e : Unread) → word ≢ codes "_" → Misspelled (length word + 1) word of_type e → IsReason of_wanted e × ((x : Option MysqlType) → Entry word x → ⊥)
no_entry word e n h =
    ⊎_elim
    (λ k. (k.0, λ x. elim x as (λ x. Entry word x → ⊥) [ None ↦ λ w. n w | Some t ↦ λ w. k.1 (a_type t) refl w ]))
    (λ k. let l = k.1 in absurd (omega (arith, l)))
    h

no_bytes : (word : List ℕ) → ((bs : List ℕ) → Writes word bs → ⊥) → (f : Field) → shape_of f ≡ of_bytes → Spelled word f → ⊥
no_bytes word n (a_type t) s w = cc
no_bytes word n (a_number bits m) s w = cc
no_bytes word n (some_bytes bs) s w = n bs w
no_bytes word n (a_value v) s w = cc
no_bytes word n (the_wanted ws) s w = cc

none_empty : (bs : List ℕ) → Writes [] bs → ⊥
unfolding decode_pairs
none_empty [] w = cc
none_empty (b ∷ bs) w = cc

-- an empty word writes no bytes
pub empty_word : (room : ℕ) → (word : List ℕ) → word ≡ [] → Misspelled room word of_bytes NoBytes
empty_word room word e = inl (refl, no_bytes word (λ bs w. none_empty bs (subst (λ (v : List ℕ). Writes v bs) e w)))

no_value : (word : List ℕ) → word ≢ codes "null" → ((f : Field) → shape_of f ≡ of_bytes → Spelled word f → ⊥) → (f : Field) → shape_of f ≡ of_value → Spelled word f → ⊥
no_value word n h (a_type t) s w = cc
no_value word n h (a_number bits m) s w = cc
no_value word n h (some_bytes bs) s w = cc
no_value word n h (a_value None) s w = n w
no_value word n h (a_value (Some bs)) s w = h (some_bytes bs) refl w
no_value word n h (the_wanted ws) s w = cc

-- a word that is neither null nor writes bytes
pub no_value_word : (room : ℕ) (word : List ℕ) (e : Unread) → word ≢ codes "null" → Misspelled room word of_bytes e → Misspelled room word of_value e
no_value_word room word e n h = ⊎_elim (λ k. inl (k.0, no_value word n k.1)) (λ k. inr k) h

no_wanted : (word : List ℕ) → ((xs : List (Option MysqlType)) → Lists word xs → ⊥) → (f : Field) → shape_of f ≡ of_wanted → Spelled word f → ⊥
no_wanted word n (a_type t) s w = cc
no_wanted word n (a_number bits m) s w = cc
no_wanted word n (some_bytes bs) s w = cc
no_wanted word n (a_value v) s w = cc
no_wanted word n (the_wanted ws) s w = n ws w

pub entries_more : (ws : List (List ℕ)) (xs : List (Option MysqlType)) (w : List ℕ) (x : Option MysqlType) → Entries ws xs → Entry w x → Entries (ws ++ w ∷ []) (xs ++ x ∷ [])
entries_more [] [] w x h e = (e, tt)
entries_more [] (y ∷ ys) w x h e = absurd h
entries_more (v ∷ vs) [] w x h e = absurd h
entries_more (v ∷ vs) (y ∷ ys) w x h e = (h.0, entries_more vs ys w x h.1 e)

pub entries_length : (ws : List (List ℕ)) (xs : List (Option MysqlType)) → Entries ws xs → length ws ≡ length xs
entries_length [] [] h = refl
entries_length [] (y ∷ ys) h = absurd h
entries_length (v ∷ vs) [] h = absurd h
entries_length (v ∷ vs) (y ∷ ys) h = let e = entries_length vs ys h.1 in omega (arith, e)

entry_at : (ws : List (List ℕ)) (xs : List (Option MysqlType)) → Entries ws xs → (i : ℕ) → i < length ws → (d : List ℕ) → (x : Option MysqlType) × Entry (get_or ws i d) x
entry_at [] xs h i l d = absurd (omega (arith, l))
entry_at (v ∷ vs) [] h i l d = absurd h
entry_at (v ∷ vs) (y ∷ ys) h zero l d = (y, h.0)
entry_at (v ∷ vs) (y ∷ ys) h (suc i) l d = entry_at vs ys h.1 i (omega (arith, l)) d

abbrev is_comma : ℕ → Bool
is_comma c = c == 44

some_part : (word : List ℕ) → Entries (slice_split is_comma word) [] → ⊥
some_part word h = let l = length-slice_split is_comma word in let e = entries_length (slice_split is_comma word) [] h in absurd (omega (arith, l, e))

-- entries that were all read make a list
pub lists_all : (word : List ℕ) (ws : List (List ℕ)) (xs : List (Option MysqlType)) → ws ≡ slice_split is_comma word → Entries ws xs → Lists word xs
lists_all word ws [] e h = absurd (some_part word (subst (λ (vs : List (List ℕ)). Entries vs []) e h))
lists_all word ws (x ∷ xs) e h = subst (λ (vs : List (List ℕ)). Entries vs (x ∷ xs)) e h

-- where one entry is none, the word is no list
pub no_list : (room : ℕ) (word : List ℕ) (e : Unread) (w : List ℕ) (i : ℕ) → word ≢ codes "-" → i < length (slice_split is_comma word) → w ≡ get_or (slice_split is_comma word) i w → IsReason of_wanted e → ((x : Option MysqlType) → Entry w x → ⊥)
    → Misspelled room word of_wanted e
no_list room word e w i d l at r n =
    inl (
      r,
      no_wanted word (λ xs.
          elim xs as (λ xs. Lists word xs → ⊥) [
            | [] ↦ λ h. d h
            | y ∷ ys ↦ λ h. let k = entry_at (slice_split is_comma word) (y ∷ ys) h i l w in n k.0 (subst (λ (v : List ℕ). Entry v k.0) (sym at) k.1)
          ]),
    )

-- a list has no more entries than its word has bytes, and one
pub few_parts : (word : List ℕ) → length (slice_split is_comma word) ≤ length word + 1
few_parts word = let l = length-slice_split is_comma word in let c = count_by-le-length is_comma word in omega (arith, l, c)
