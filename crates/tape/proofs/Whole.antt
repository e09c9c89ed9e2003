-- A whole tape, part by part.
-- Assumes nothing.
use Rattle.std.proofs.Common.{◌≡◌, ℕ, zero, suc, ◌+◌, ◌*◌, ◌/◌, ◌%◌, ◌^◌, ◌<◌, ◌≤◌, ◌⊎◌, ⊎_elim, List, [], ◌∷◌, ◌++◌, length, take, drop, sym, refl, ap, ◌∙◌, subst, arith}
use Rattle.std.proofs.lemmas.List.{append-nil, length-append, take-append-drop, length-take}
use Rattle.std.specs.List.{flat_map}
use Rattle.mysql.specs.declared.bind.Column.{Column}
use Rattle.host.specs.Fields.{Bytes}
use Rattle.tape.specs.Format.{Event, Contents, two, column_bytes, event_bytes, ColumnsIn, EventsOf, Holds, TapeOf, NoTape}
use Rattle.tape.specs.Steps.{Begins, NoneBegins}
use Rattle.tape.specs.Unique.{two_one, cut_one, columns_long, events_one}
use Rattle.tape.proofs.Held.{bytes_taken, bytes_behind}

-- any bytes, five for each column, are those of columns
pub columns_of : (w : ℕ) (bs : List ℕ) → Bytes bs → length bs ≡ w * 5 → (cs : List Column) × ColumnsIn bs cs
columns_of zero [] h l = ([], record { bytes_are = refl; fit = tt })
columns_of zero (a ∷ bs) h l = absurd (omega arith)
columns_of (suc w) [] h l = absurd (omega arith)
columns_of (suc w) (a ∷ []) h l = absurd (omega arith)
columns_of (suc w) (a ∷ b ∷ []) h l = absurd (omega arith)
columns_of (suc w) (a ∷ b ∷ c ∷ []) h l = absurd (omega arith)
columns_of (suc w) (a ∷ b ∷ c ∷ d ∷ []) h l = absurd (omega arith)
columns_of (suc w) (a ∷ b ∷ c ∷ d ∷ e ∷ r) h l =
    let la = h.0 in
    let lb = h.1.0 in
    let lc = h.1.1.0 in
    let ld = h.1.1.1.0 in
    let le = h.1.1.1.1.0 in
    let p = columns_of w r h.1.1.1.1.1 (omega arith) in
    let n = b + c * 256 + d * 65536 + e * 16777216 in
    let eb : n % 256 ≡ b = omega arith in
    let ec : n / 256 % 256 ≡ c = omega arith in
    let ed : n / 65536 % 256 ≡ d = omega arith in
    let ee : n / 16777216 ≡ e = omega arith in
    let behind = flat_map column_bytes p.0 in (
      record { code = a; flags = n } ∷ p.0,
      record {
        bytes_are =
            ap (λ k. a ∷ k ∷ n / 256 % 256 ∷ n / 65536 % 256 ∷ n / 16777216 ∷ behind) eb
            ∙ ap (λ k. a ∷ b ∷ k ∷ n / 65536 % 256 ∷ n / 16777216 ∷ behind) ec
            ∙ ap (λ k. a ∷ b ∷ c ∷ k ∷ n / 16777216 ∷ behind) ed
            ∙ ap (λ k. a ∷ b ∷ c ∷ d ∷ k ∷ behind) ee
            ∙ ap (λ xs. a ∷ b ∷ c ∷ d ∷ e ∷ xs) p.1.bytes_are;
        fit = ((omega arith, omega arith), p.1.fit);
      },
    )

-- a tape's counts are w and n, and s is what follows them
module _ (bytes : List ℕ) (w : ℕ) (r : List ℕ) (hw : Begins (λ n. n < 2 ^ 16) two bytes w r) (n : ℕ) (s : List ℕ) (hn : Begins (λ n. n < 2 ^ 16) two r n s) where
  record Parts (t : Contents) : Type 0 where
    wide : length t.columns ≡ w
    long : length t.events ≡ n
    are : flat_map column_bytes t.columns ++ flat_map event_bytes t.events ≡ s

  parts : (t : Contents) → TapeOf bytes t → Parts t
  parts t h =
      let a = two_one (length t.columns) w (two (length t.events) ++ (flat_map column_bytes t.columns ++ flat_map event_bytes t.events)) r (h.bytes_are ∙ sym hw.bytes_are) in
      let b = two_one (length t.events) n (flat_map column_bytes t.columns ++ flat_map event_bytes t.events) s (a.1 ∙ sym hn.bytes_are) in
      record { wide = a.0; long = b.0; are = b.1 }

  pub wide_or_short : (64 < w) ⊎ ((w ≤ 64) × (length s < w * 5)) → NoTape bytes
  wide_or_short h t k =
      let p = parts t k in
      let few = k.narrow in
      let wide = p.wide in
      ⊎_elim (λ a. omega arith)
      (λ a. let short = a.1 in omega (arith, ap length p.are, length-append (flat_map column_bytes t.columns) (flat_map event_bytes t.events), columns_long t.columns)) h

  pub behind_counts : Bytes bytes → Bytes s
  behind_counts fit = bytes_behind (two n) s (subst Bytes (sym hn.bytes_are) (bytes_behind (two w) r (subst Bytes (sym hw.bytes_are) fit)))

  module _ (narrow : w ≤ 64) (front back : List ℕ) (hf : front ≡ take (w * 5) s) (hb : back ≡ drop (w * 5) s) (enough : w * 5 ≤ length s) where
    pub as_many : length front ≡ w * 5
    as_many = ap length hf ∙ length-take (w * 5) s ∙ omega arith

    both : front ++ back ≡ s
    both = ap (λ xs. xs ++ back) hf ∙ ap (λ xs. take (w * 5) s ++ xs) hb ∙ take-append-drop (w * 5) s

    cut : (t : Contents) (p : Parts t) → (flat_map column_bytes t.columns ≡ front) × (flat_map event_bytes t.events ≡ back)
    cut t p =
        cut_one (flat_map column_bytes t.columns) front (flat_map event_bytes t.events) back
        (columns_long t.columns ∙ ap (λ k. k * 5) p.wide ∙ sym as_many) (p.are ∙ sym both)

    listed : (t : Contents) (k : TapeOf bytes t) → ColumnsIn front t.columns
    listed t k = record { bytes_are = (cut t (parts t k)).0; fit = k.columns_fit }

    pub no_events : ((cs : List Column) → ColumnsIn front cs → NoneBegins (EventsOf cs n) (flat_map event_bytes) back) → NoTape bytes
    no_events none t k =
        none t.columns (listed t k) t.events []
        (record { fits = ((parts t k).long, k.events_of); bytes_are = append-nil (flat_map event_bytes t.events) ∙ (cut t (parts t k)).1 })

    pub too_long : (end : List ℕ) → ((cs : List Column) → ColumnsIn front cs → (es : List Event) × Begins (EventsOf cs n) (flat_map event_bytes) back es end) → (length end ≡ 0 → ⊥) → NoTape bytes
    too_long end all over t k =
        let q = all t.columns (listed t k) in
        let p = parts t k in
        let o = events_one t.columns q.0 t.events end [] (q.1.fits.0 ∙ sym p.long) q.1.fits.1 k.events_of
        (q.1.bytes_are ∙ sym (append-nil (flat_map event_bytes t.events) ∙ (cut t p).1)) in
        over (ap length o.1)

    pub held : (end : List ℕ) → Bytes s → ((cs : List Column) → ColumnsIn front cs → (es : List Event) × Begins (EventsOf cs n) (flat_map event_bytes) back es end) → length end ≡ 0
        → (t : Contents) × Holds front back n t
    held [] fit all e =
        let c = columns_of w front (subst Bytes (sym hf) (bytes_taken (w * 5) s fit)) as_many in
        let q = all c.0 c.1 in (
          record { columns = c.0; events = q.0 },
          record {
            columns_in = c.1;
            events_in = record { bytes_are = sym (append-nil (flat_map event_bytes q.0)) ∙ q.1.bytes_are; events_of = q.1.fits };
          },
        )
    held (x ∷ end) fit all e = absurd (omega arith)

    pub tape_of : (t : Contents) → Holds front back n t → TapeOf bytes t
    tape_of t h =
        let long = columns_long t.columns in
        let same : length t.columns ≡ w = omega (arith, ap length h.columns_in.bytes_are, as_many) in
        let few = hn.fits in
        let count = h.events_in.events_of.0 in
        record {
          bytes_are =
              ap (λ k. two k ++ (two (length t.events) ++ (flat_map column_bytes t.columns ++ flat_map event_bytes t.events))) same
              ∙ ap (λ k. two w ++ (two k ++ (flat_map column_bytes t.columns ++ flat_map event_bytes t.events))) count
              ∙ ap (λ xs. two w ++ (two n ++ (xs ++ flat_map event_bytes t.events))) h.columns_in.bytes_are
              ∙ ap (λ xs. two w ++ (two n ++ (front ++ xs))) h.events_in.bytes_are
              ∙ ap (λ xs. two w ++ (two n ++ xs)) both
              ∙ ap (λ xs. two w ++ xs) hn.bytes_are
              ∙ hw.bytes_are;
          narrow = omega arith;
          few = omega arith;
          columns_fit = h.columns_in.fit;
          events_of = h.events_in.events_of.1;
        }
