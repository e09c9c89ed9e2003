-- Two sessions that are opened alike answer equal next events alike, and equal readings of them.
use Rattle.std.proofs.Common.{◌≡◌, ℕ, suc, ◌+◌, ◌<◌, Bool, true, false, cond, ltb, List, [], ◌∷◌, ◌++◌, length, get_or, is_some, Some, None, Ok, Err, Option, Result, sym, refl, ap, ◌∙◌, subst, arith}
use Rattle.std.proofs.lemmas.Bool.{ltb-true}
use Rattle.mysql.specs.declared.bind.Column.{Column}
use Rattle.mysql.specs.declared.fault.Fault.{Fault}
use Rattle.mysql.specs.declared.fault.Refusal.TheVariants.{NoSuchColumn}
use Rattle.mysql.specs.Faults.{refused, host_failed}
use Rattle.host.specs.Meanings.{Row, Event, Meaning}
use Rattle.host.specs.Meanings as event
use Rattle.layout.specs.Tables.{no_pair}
use Rattle.mysql.specs.declared.backend.MysqlType.{MysqlType}
use Rattle.mysql.specs.Taken.{taken_pair}
use Rattle.rows.specs.Bounds.{wanted_of, with_pair, bound_from, field_at, row_need, first_loss}
use Rattle.rows.specs.declared.answers.Fetch.{Fetch}
use Rattle.rows.specs.Dues as dues
use Rattle.rows.specs.Dues.{TypedBytes}
use Rattle.play.specs.Histories.{Asked, opening, fetch, reading, integer, big_integer, time, Said, Entry, granted, pairs_if, removed, showing_from, IsReading, NoFetch}
use Rattle.play.specs.Rules.{fetch_said, shown_said, read_due}
use Rattle.play.specs.Law.{bound_after, coming_after, SameFields, SameNext, Alike, AnswersAlike}
use Rattle.play.specs.Machine.{State, start, shown_if, fetch_at, answer, after, Ideal}
use Rattle.play.proofs.Runs.{run, later, rests, Went}
use Rattle.play.proofs.Lawful as run_of

module _ (r s : Row) where
  -- equal fields of columns that are counted from i on
  abbrev SameFrom : ℕ → List Column → Type 0
  SameFrom i ps = (k : ℕ) → k < length ps → field_at r (i + k) (get_or ps k no_pair) ≡ field_at s (i + k) (get_or ps k no_pair)

  next_on : (i : ℕ) (c : Column) (cs : List Column) → SameFrom i (c ∷ cs) → SameFrom (suc i) cs
  next_on i c cs h k l =
      let shift : suc i + k ≡ i + suc k = omega arith in
      let l' : suc k < suc (length cs) = omega arith in
      ap (λ (j : ℕ). field_at r j (get_or cs k no_pair)) shift ∙ h (suc k) l' ∙ ap (λ (j : ℕ). field_at s j (get_or cs k no_pair)) (sym shift)

  head_on : (i : ℕ) (c : Column) (cs : List Column) → SameFrom i (c ∷ cs) → field_at r i c ≡ field_at s i c
  head_on i c cs h =
      let none : i ≡ i + 0 = omega arith in
      ap (λ (j : ℕ). field_at r j c) none ∙ h 0 (omega arith) ∙ ap (λ (j : ℕ). field_at s j c) (sym none)

  same_loss : (i : ℕ) (ps : List Column) → SameFrom i ps → first_loss r i ps ≡ first_loss s i ps
  same_loss i [] h = refl
  same_loss i (c ∷ cs) h = rw (head_on i c cs h, same_loss (suc i) cs (next_on i c cs h)) refl

  same_need : (i : ℕ) (ps : List Column) → SameFrom i ps → row_need r i ps ≡ row_need s i ps
  same_need i [] h = refl
  same_need i (c ∷ cs) h = rw (head_on i c cs h, same_need (suc i) cs (next_on i c cs h)) refl

  from_first : (ps : List Column) → SameFields ps r s → SameFrom 0 ps
  from_first ps h k l =
      let shift : 0 + k ≡ k = omega arith in
      ap (λ (j : ℕ). field_at r j (get_or ps k no_pair)) shift ∙ h k l ∙ ap (λ (j : ℕ). field_at s j (get_or ps k no_pair)) (sym shift)

  same_fetched : (ps : List Column) (n : ℕ) (ds es : List Event) → SameFields ps r s → dues.fetched ps n (event.row r ∷ ds) ≡ dues.fetched ps n (event.row s ∷ es)
  same_fetched ps n ds es h = rw (same_loss 0 ps (from_first ps h), same_need 0 ps (from_first ps h)) refl

  -- the reading of a column, by whether there is such a column
  read_by : (ps : List Column) (k : ℕ) (b : Bool) → ltb k (length ps) ≡ b → SameFields ps r s
      → cond b (dues.row_shown ps (Some r) k) (Err (refused NoSuchColumn)) ≡ cond b (dues.row_shown ps (Some s) k) (Err (refused NoSuchColumn))
  read_by ps k false e h = refl
  read_by ps k true e h = let l : k < length ps = ltb-true k (length ps) e in ap (dues.field_shown k (get_or ps k no_pair)) (h k l)

  same_read : (ps : List Column) (k : ℕ) → SameFields ps r s → dues.read ps (Some r) k ≡ dues.read ps (Some s) k
  same_read ps k h = read_by ps k (ltb k (length ps)) refl h

-- what two sessions have alike after a fetch: they say the same, and each column reads the same
record Same (ps : List Column) (n : ℕ) (ds es : List Event) : Type 0 where
  said : dues.fetched ps n ds ≡ dues.fetched ps n es
  reads : (k : ℕ) → dues.read ps (shown_if (dues.fetched ps n ds) ds) k ≡ dues.read ps (shown_if (dues.fetched ps n es) es) k

same_row : (ps : List Column) (n : ℕ) (r s : Row) (ds es : List Event) → SameFields ps r s → (x : Result Fetch Fault) (k : ℕ) → dues.read ps (shown_if x (event.row r ∷ ds)) k ≡ dues.read ps (shown_if x (event.row s ∷ es)) k
same_row ps n r s ds es h (Ok x) k = same_read r s ps k h
same_row ps n r s ds es h (Err f) k = refl

same_next : (ps : List Column) (n : ℕ) (ds es : List Event) → SameNext ps ds es → Same ps n ds es
same_next ps n [] [] h = record { said = refl; reads = λ k. refl }
same_next ps n [] (e ∷ es) h = absurd h
same_next ps n (event.row r ∷ ds) [] h = absurd h
same_next ps n (event.failure k ∷ ds) [] h = absurd h
same_next ps n (event.row r ∷ ds) (event.row s ∷ es) h =
    let e = same_fetched r s ps n ds es h in
    record {
      said = e;
      reads = λ k. same_row ps n r s ds es h (dues.fetched ps n (event.row r ∷ ds)) k ∙ ap (λ (x : Result Fetch Fault). dues.read ps (shown_if x (event.row s ∷ es)) k) e;
    }
same_next ps n (event.row r ∷ ds) (event.failure k ∷ es) h = absurd h
same_next ps n (event.failure k ∷ ds) (event.row s ∷ es) h = absurd h
same_next ps n (event.failure j ∷ ds) (event.failure k ∷ es) h = record { said = ap (λ (i : ℕ). Err (host_failed i)) h; reads = λ i. refl }

-- sessions whose columns read the same say the same to a reading
same_answer : (s t : State) → ((k : ℕ) → read_due s.bound s.shown k ≡ read_due t.bound t.shown k) → (asked : Asked) → IsReading asked → answer s asked ≡ answer t asked
same_answer s t h (opening wanted) i = absurd i
same_answer s t h fetch i = absurd i
same_answer s t h (reading k) i = ap shown_said (h k)
same_answer s t h (integer k) i = rw (h k) refl
same_answer s t h (big_integer k) i = rw (h k) refl
same_answer s t h (time k) i = rw (h k) refl

-- something is bound where it is said so
some_bound : (o : Option (List Column)) → is_some o ≡ true → (pairs : List Column) × (o ≡ Some pairs)
some_bound (Some ps) e = (ps, refl)
some_bound None e = cc

-- a session that is about to be asked for a fetch, its columns bound and its next events known
module _ (m : Meaning) (n : ℕ) (history : List Entry) (ideal : Ideal (start m n) history) (before rest : List Entry) (said : Said) (split : history ≡ before ++ record { asked = fetch; said = said } ∷ rest) (pairs : List Column) (bound : bound_after m before ≡ Some pairs) where
  abbrev asks : List Entry
  asks = record { asked = fetch; said = said } ∷ rest

  abbrev here : State
  here = run (start m n) before

  abbrev there : State
  there = after here fetch

  went : Went (start m n) here (granted before) (removed before) (showing_from false before)
  went = run_of.came m n history ideal before asks split

  so : Ideal here asks
  so = run_of.said_so m n history ideal before asks split

  is_bound : here.bound ≡ Some pairs
  is_bound = went.bound_as ∙ bound

  there_is : there ≡ fetch_at here (Some pairs)
  there_is = ap (fetch_at here) is_bound

  fetch_says : said ≡ fetch_said (dues.fetched pairs n (coming_after m before))
  fetch_says = so.0 ∙ rw (is_bound, went.arena, went.coming) refl

  there_bound : there.bound ≡ Some pairs
  there_bound = rw there_is is_bound

  there_shown : there.shown ≡ shown_if (dues.fetched pairs n (coming_after m before)) (coming_after m before)
  there_shown = rw (there_is, went.arena, went.coming) refl

  there_reads : (k : ℕ) → read_due there.bound there.shown k ≡ dues.read pairs (shown_if (dues.fetched pairs n (coming_after m before)) (coming_after m before)) k
  there_reads k = rw (there_bound, there_shown) refl

  reading_says : (between after' : List Entry) (asked : Asked) (x : Said) → rest ≡ between ++ record { asked = asked; said = x } ∷ after' → NoFetch between → x ≡ answer there asked
  reading_says between after' asked x e quiet =
      (later there between (record { asked = asked; said = x } ∷ after') (subst (Ideal there) e so.1)).0
      ∙ ap (λ (s : State). answer s asked) (rests there pairs there_bound between quiet)

-- columns are bound alike where the same types are wanted of them
bound_same : (wanted wanted' : List (Option MysqlType)) (i : ℕ) (cs : List Column) → ((k : ℕ) → k < length cs → wanted_of wanted (i + k) ≡ wanted_of wanted' (i + k)) → bound_from wanted i cs ≡ bound_from wanted' i cs
bound_same wanted wanted' i [] h = refl
bound_same wanted wanted' i (c ∷ cs) h =
    let none : i + 0 ≡ i = omega arith in
    let here : wanted_of wanted i ≡ wanted_of wanted' i = ap (wanted_of wanted) (sym none) ∙ h 0 (omega arith) ∙ ap (wanted_of wanted') none in
    let later = bound_same wanted wanted' (suc i) cs
    (λ k l. let shift : i + suc k ≡ suc i + k = omega arith in ap (wanted_of wanted) (sym shift) ∙ h (suc k) (omega arith) ∙ ap (wanted_of wanted') shift) in
    ap (λ (w : Option MysqlType). with_pair i (taken_pair w c.code c.flags) (bound_from wanted (suc i) cs)) here
    ∙ ap (λ (r : Result (List Column) Fault). with_pair i (taken_pair (wanted_of wanted' i) c.code c.flags) r) later

module _ (m m' : Meaning) (n n' : ℕ) (h h' : List Entry) (ideal : Ideal (start m n) h) (ideal' : Ideal (start m' n') h') where
  -- the columns are bound alike
  bound_alike : (before before' : List Entry) → Alike m m' n n' before before' → bound_after m' before' ≡ bound_after m before
  bound_alike before before' a =
      rw (a.opened', a.opened, sym a.columns)
      (ap pairs_if (sym (bound_same a.wanted a.wanted' 0 m.columns (λ k l. let z : 0 + k ≡ k = omega arith in rw z (a.same_wanted k l)))))

  pub alike : AnswersAlike m m' n n' h h'
  alike before before' rest rest' said said' e e' a =
      let w = run_of.came m n h ideal before (record { asked = fetch; said = said } ∷ rest) e in
      let b = some_bound (bound_after m before) (sym (ap is_some w.bound_as) ∙ w.opens ∙ ap is_some a.opened) in
      let pairs = b.0 in
      let b' = bound_alike before before' a ∙ b.1 in
      let same = same_next pairs n (coming_after m before) (coming_after m' before') (a.next pairs b.1) in
      let reads_alike : (k : ℕ) → read_due (there m n h ideal before rest said e pairs b.1).bound (there m n h ideal before rest said e pairs b.1).shown k ≡ read_due (there m' n' h' ideal' before' rest' said' e' pairs b').bound (there m' n' h' ideal' before' rest' said' e' pairs b').shown k =
      λ k. there_reads m n h ideal before rest said e pairs b.1 k ∙ same.reads k
      ∙ ap (λ (j : ℕ). dues.read pairs (shown_if (dues.fetched pairs j (coming_after m' before')) (coming_after m' before')) k) a.arenas
      ∙ sym (there_reads m' n' h' ideal' before' rest' said' e' pairs b' k) in
      record {
        fetches =
            fetch_says m n h ideal before rest said e pairs b.1 ∙ ap fetch_said same.said
            ∙ ap (λ (j : ℕ). fetch_said (dues.fetched pairs j (coming_after m' before'))) a.arenas
            ∙ sym (fetch_says m' n' h' ideal' before' rest' said' e' pairs b');
        readings = λ between between' after' after'' asked x y p p' q q' i.
            reading_says m n h ideal before rest said e pairs b.1 between after' asked x p q
            ∙ same_answer (there m n h ideal before rest said e pairs b.1) (there m' n' h' ideal' before' rest' said' e' pairs b') reads_alike asked i
            ∙ sym (reading_says m' n' h' ideal' before' rest' said' e' pairs b' between' after'' asked y p' q');
      }
