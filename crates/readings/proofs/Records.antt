-- The reading of times by places undoes the record: it reads each record back as its time, and any 48 bytes with a sign are a record.
-- Assumes nothing.
use Rattle.std.proofs.Common.{◌≡◌, ℕ, zero, suc, ◌+◌, ◌^◌, ◌<◌, ◌≤◌, Bool, true, false, cond, eqb, leb, List, [], ◌∷◌, ◌++◌, length, get_or, ℤ, Ok, Err, Result, refl, sym, ap, ◌∙◌, subst, w32, w64, to_z, of_z, arith, lit<}
use Rattle.std.specs.Prelude.{slice_index, FitsSigned}
use Rattle.std.specs.List.{AllByRecursion}
use Rattle.std.proofs.ByRecursion.{All-from_get_or}
use Rattle.std.specs.Int.{to_le_bytes, from_le_bytes}
use Rattle.std.proofs.lemmas.List.{length-append, append_assoc, append-nil}
use Rattle.std.proofs.lemmas.Bool.{le-leb, lt-leb, ne_eqb}
use Rattle.std.proofs.lemmas.Nat.{from_le_bytes-to_le_bytes_4, from_le_bytes-to_le_bytes_8, le_bytes_4, le_bytes_8}
use Rattle.std.proofs.lemmas.Int.{to_z-of_z, of_z-to_z}
use mir.ValLaws.{of_z_fits}
use Rattle.std.proofs.Math.Facts.{sfits_to_z}
use Rattle.mysql.specs.declared.fault.Fault.{Fault}
use Rattle.mysql.specs.declared.fault.Refusal.TheVariants.{TooShort, InvalidSign, NegativeTime}
use Rattle.mysql.specs.Faults.{refused}
use Rattle.mysql.specs.declared.backend.MysqlType.{MysqlType}
use Rattle.readings.specs.declared.date_and_time.MysqlTime.{MysqlTime}
use Rattle.readings.specs.Bytes.{le}
use Rattle.readings.specs.Times.{record_at, by_sign, time}
use Rattle.readings.specs.Records.{InRange, signed_bytes, record_bytes, IsRecord, ReadsRecord, ReadsTime}
use Rattle.readings.specs.Laws.{TimesReadBack}

-- numbers that were written
four : (n : ℕ) → n < 2 ^ 32 → le (to_le_bytes w32 n) ≡ n
four n h = omega (arith, from_le_bytes-to_le_bytes_4 n h)

eight : (n : ℕ) → n < 2 ^ 64 → le (to_le_bytes w64 n) ≡ n
eight n h = omega (arith, from_le_bytes-to_le_bytes_8 n h)

signed_four : (z : ℤ) → FitsSigned w32 z → to_z w32 (le (signed_bytes z)) ≡ z
signed_four z h = ap (to_z w32) (four (of_z w32 z) (of_z_fits w32 z h).fits) ∙ to_z-of_z w32 z h

-- the reading of bytes, once the type is one of times
abbrev of_bytes : List ℕ → Result MysqlTime Fault
of_bytes bs = cond (leb 48 (length bs)) (by_sign (slice_index bs 32) bs) (Err (refused TooShort))

abbrev wanted : MysqlTime → Result MysqlTime Fault
wanted t = cond t.neg (Err (refused NegativeTime)) (Ok t)

-- each field by its place
fields : (t : MysqlTime) → InRange t → (p q r : ℕ) (tail rest : List ℕ) → record_at (record_bytes t (p ∷ q ∷ r ∷ []) tail ++ rest) ≡ record t { neg = false }
fields t h p q r tail rest = λ i. record {
  year = four t.year h.year i;
  month = four t.month h.month i;
  day = four t.day h.day i;
  hour = four t.hour h.hour i;
  minute = four t.minute h.minute i;
  second = four t.second h.second i;
  second_part = eight t.second_part h.second_part i;
  neg = false;
  time_type = signed_four t.time_type h.time_type i;
  time_zone_displacement = signed_four t.time_zone_displacement h.time_zone_displacement i;
}

by_neg : (t : MysqlTime) (b : Bool) → t.neg ≡ b → (bs : List ℕ) → 48 ≤ length bs → slice_index bs 32 ≡ cond t.neg 1 0
    → record_at bs ≡ record t { neg = false } → of_bytes bs ≡ wanted t
by_neg t true n bs l e f = rw (le-leb 48 (length bs) l, e, n) refl
by_neg t false n bs l e f = rw (le-leb 48 (length bs) l, e, n, f) refl

three : (bs : List ℕ) → length bs ≡ 3 → (a : ℕ) × (b : ℕ) × (c : ℕ) × (bs ≡ a ∷ b ∷ c ∷ [])
three [] h = absurd (omega arith)
three (a ∷ []) h = absurd (omega arith)
three (a ∷ b ∷ []) h = absurd (omega arith)
three (a ∷ b ∷ c ∷ []) h = (a, b, c, refl)
three (a ∷ b ∷ c ∷ d ∷ r) h = absurd (omega arith)

written : (t : MysqlTime) → InRange t → (gap tail rest : List ℕ) → length gap ≡ 3 → length tail ≡ 4 → of_bytes (record_bytes t gap tail ++ rest) ≡ wanted t
written t h gap tail rest g l =
    let w = three gap g in
    let p = w.0 in let q = w.1 in let r = w.2 in
    let bs = record_bytes t (p ∷ q ∷ r ∷ []) tail ++ rest in
    let n : length ((tail ++ []) ++ rest) ≡ 4 + length rest = length-append (tail ++ []) rest ∙ ap (λ k. k + length rest) (length-append tail [] ∙ omega (arith, l)) in
    rw w.3 (by_neg t t.neg refl bs (omega (arith, n)) refl (fields t h p q r tail rest))

-- ---- any 48 bytes with a sign

abbrev Bytes : List ℕ → Type 0
Bytes bs = AllByRecursion (λ b. b < 256) bs

small : (bs : List ℕ) → Bytes bs → (i : ℕ) → get_or bs i 0 < 256
small [] h i = lit< tt
small (b ∷ bs) h zero = h.0
small (b ∷ bs) h (suc i) = small bs h.1 i

-- the first bytes, and those behind them
parted : (P : List ℕ → Type 0) (k m : ℕ) (bs : List ℕ) → Bytes bs → k + m ≤ length bs
    → ((xs ys : List ℕ) → length xs ≡ k → Bytes xs → Bytes ys → m ≤ length ys → P (xs ++ ys)) → P bs
parted P zero m bs h l f = f [] bs refl tt h (omega arith)
parted P (suc k) m [] h l f = absurd (omega arith)
parted P (suc k) m (b ∷ bs) h l f =
    parted (λ u. P (b ∷ u)) k m bs h.1 (omega arith) (λ xs ys n i j o. f (b ∷ xs) ys (ap suc n) (h.0, i) j o)

-- the number in the first bytes
front4 : (P : List ℕ → Type 0) (m : ℕ) (bs : List ℕ) → Bytes bs → 4 + m ≤ length bs
    → ((n : ℕ) (ys : List ℕ) → n < 2 ^ 32 → Bytes ys → m ≤ length ys → P (to_le_bytes w32 n ++ ys)) → P bs
front4 P m bs h l f = parted P 4 m bs h l (λ xs ys n i j o.
    let s = small xs i in
    subst (λ u. P (u ++ ys)) (le_bytes_4 xs (from_le_bytes w32 xs) n s refl) (f (from_le_bytes w32 xs) ys (omega (arith, s 0, s 1, s 2, s 3)) j o))

front8 : (P : List ℕ → Type 0) (m : ℕ) (bs : List ℕ) → Bytes bs → 8 + m ≤ length bs
    → ((n : ℕ) (ys : List ℕ) → n < 2 ^ 64 → Bytes ys → m ≤ length ys → P (to_le_bytes w64 n ++ ys)) → P bs
front8 P m bs h l f = parted P 8 m bs h l (λ xs ys n i j o.
    let s = small xs i in
    subst (λ u. P (u ++ ys)) (le_bytes_8 xs (from_le_bytes w64 xs) n s refl)
    (f (from_le_bytes w64 xs) ys (omega (arith, s 0, s 1, s 2, s 3, s 4, s 5, s 6, s 7)) j o))

-- the byte of the sign
sign_back : (b : ℕ) → b ≤ 1 → cond (eqb b 1) 1 0 ≡ b
sign_back zero h = refl
sign_back (suc zero) h = refl
sign_back (suc (suc b)) h = absurd (omega arith)

seam : (gap xs tail rest : List ℕ) → gap ++ (xs ++ (tail ++ rest)) ≡ (gap ++ (xs ++ (tail ++ []))) ++ rest
seam gap xs tail rest = sym
    (append_assoc gap (xs ++ (tail ++ [])) rest
    ∙ ap (λ u. gap ++ u) (append_assoc xs (tail ++ []) rest ∙ ap (λ u. xs ++ (u ++ rest)) (append-nil tail)))

abbrev Signed : List ℕ → Type 0
Signed bs = slice_index bs 32 ≤ 1 → (t : MysqlTime) × IsRecord t bs

abbrev After : (List ℕ → Type 0) → List ℕ → List ℕ → Type 0
After P xs ys = P (xs ++ ys)

-- numbers that lie as in the record
made : (year month day hour minute second part b kind zone : ℕ) (gap tail rest : List ℕ)
    → year < 2 ^ 32 → month < 2 ^ 32 → day < 2 ^ 32 → hour < 2 ^ 32 → minute < 2 ^ 32 → second < 2 ^ 32 → part < 2 ^ 64 → kind < 2 ^ 32 → zone < 2 ^ 32
    → length gap ≡ 3 → length tail ≡ 4 → Signed (to_le_bytes w32 year ++ (to_le_bytes w32 month ++ (to_le_bytes w32 day ++ (to_le_bytes w32 hour
    ++ (to_le_bytes w32 minute ++ (to_le_bytes w32 second ++ (to_le_bytes w64 part ++ (b ∷ (gap ++ (to_le_bytes w32 kind ++ (to_le_bytes w32 zone ++ (tail ++ rest))))))))))))
made year month day hour minute second part b kind zone gap tail rest y m d h i s p k z g l signed =
    let t : MysqlTime = record {
      year = year;
      month = month;
      day = day;
      hour = hour;
      minute = minute;
      second = second;
      second_part = part;
      neg = eqb b 1;
      time_type = to_z w32 kind;
      time_zone_displacement = to_z w32 zone;
    } in (
      t,
      record {
        in_range = record {
          year = y;
          month = m;
          day = d;
          hour = h;
          minute = i;
          second = s;
          second_part = p;
          time_type = sfits_to_z (record { fits = k });
          time_zone_displacement = sfits_to_z (record { fits = z });
        };
        gap = gap;
        gap_length = g;
        tail = tail;
        tail_length = l;
        rest = rest;
        bytes = rw (sign_back b signed, of_z-to_z w32 kind k, of_z-to_z w32 zone z)
            (ap (λ u. to_le_bytes w32 year ++ (to_le_bytes w32 month ++ (to_le_bytes w32 day ++ (to_le_bytes w32 hour
            ++ (to_le_bytes w32 minute ++ (to_le_bytes w32 second ++ (to_le_bytes w64 part ++ (b ∷ u)))))))) (seam gap (to_le_bytes w32 kind ++ to_le_bytes w32 zone) tail rest));
      },
    )

one : (bs : List ℕ) → length bs ≡ 1 → (b : ℕ) × (bs ≡ b ∷ [])
one [] h = absurd (omega arith)
one (b ∷ []) h = (b, refl)
one (b ∷ c ∷ bs) h = absurd (omega arith)

pub is_record : (bs : List ℕ) → Bytes bs → 48 ≤ length bs → Signed bs
is_record bs h l =
    front4 Signed 44 bs h l (λ year bs y h l.
    let P = After Signed (to_le_bytes w32 year) in front4 P 40 bs h l (λ month bs m h l.
    let P = After P (to_le_bytes w32 month) in front4 P 36 bs h l (λ day bs d h l.
    let P = After P (to_le_bytes w32 day) in front4 P 32 bs h l (λ hour bs o h l.
    let P = After P (to_le_bytes w32 hour) in front4 P 28 bs h l (λ minute bs i h l.
    let P = After P (to_le_bytes w32 minute) in front4 P 24 bs h l (λ second bs s h l.
    let P = After P (to_le_bytes w32 second) in front8 P 16 bs h l (λ part bs p h l.
    let P = After P (to_le_bytes w64 part) in parted P 1 15 bs h l (λ sign bs a b h l.
    let P = After P sign in parted P 3 12 bs h l (λ gap bs g c h l.
    let P = After P gap in front4 P 8 bs h l (λ kind bs k h l.
    let P = After P (to_le_bytes w32 kind) in front4 P 4 bs h l (λ zone bs z h l.
    let P = After P (to_le_bytes w32 zone) in parted P 4 0 bs h l (λ tail rest t e h l.
    let w = one sign a in
    rw w.1 (made year month day hour minute second part w.0 kind zone gap tail rest y m d o i s p k z g t)))))))))))))

-- ---- the reading

no_sign : (n : ℕ) (bs : List ℕ) → 1 < n → by_sign n bs ≡ Err (refused InvalidSign)
no_sign n bs h = rw (ne_eqb n 0 (λ e. omega arith), ne_eqb n 1 (λ e. omega arith)) refl

reads : (bs : List ℕ) → Bytes bs → ReadsRecord bs (of_bytes bs)
reads bs h = record {
  short = λ l. rw (lt-leb 48 (length bs) l) refl;
  no_sign = λ l s. rw (le-leb 48 (length bs) l) (no_sign (slice_index bs 32) bs s);
  is_record = is_record bs h;
  reads_back = λ t r. rw r.bytes (written t r.in_range r.gap r.tail r.rest r.gap_length r.tail_length);
}

pub back : TimesReadBack
back t bs h = record {
  other_type = λ e. rw e refl;
  time = λ e. rw e (reads bs h);
}

-- of a slice's bytes
pub read_is : (t : MysqlType) (bs : List ℕ) → ((i : ℕ) → i < length bs → get_or bs i 0 < 256) → (r : Result MysqlTime Fault) → r ≡ time t bs → ReadsTime t bs r
read_is t bs h r e = subst (ReadsTime t bs) (sym e) (back t bs (All-from_get_or (λ b. b < 256) bs 0 h))
