-- Lists of calls that are answered one by one.
use Rattle.std.proofs.Common.{◌≡◌, ℕ, ◌+◌, ◌<◌, ◌≤◌, max, Bool, true, false, ◌||◌, List, [], ◌∷◌, ◌++◌, map, length, get_or, take, is_some as option_is_some, Some, None, Option, sym, refl, ap, ◌∙◌, subst, append_assoc, arith}
use Rattle.std.proofs.Math.Nat.{le-max_left, le-max_right, max-le}
use Rattle.std.proofs.lemmas.List.{take_more, append-nil, take_all}
use Rattle.host.specs.Meanings.{Meaning}
use Rattle.host.specs.Meanings as event
use Rattle.mysql.specs.declared.bind.Column.{Column}
use Rattle.layout.specs.Moves.{Beyond}
use Rattle.session.specs.declared.answers.Slip.{Slip}
use Rattle.session.specs.declared.state.Session.{Session}
use Rattle.session.specs.declared.state.Opened as state
use Rattle.session.specs.Stages.{shown}
use Rattle.session.specs.Sessions.{is_open, is_shown, table_of, shown_row}
use Rattle.play.specs.declared.calls.Call.{Call}
use Rattle.play.specs.Calls.{asked_of}
use Rattle.play.specs.Histories.{Asked, Entry, granted_by, granted, first_of}
use Rattle.play.specs.Lays.{Lay, lay_end, lay_after, reach_from}
use Rattle.play.specs.Machine.{State, start, answer, after, Ideal, told}
use Rattle.play.specs.Moves.{ideal_of, lay_of, Ready, Untouched, Stands, standing, said_at, Answered}
use Rattle.play.specs.Plays.{history_of, Heard, HeardAlike}
use Rattle.rows.specs.Standing.{pairs_of}
use Rattle.play.proofs.Runs.{run, step_went, went}
use Rattle.play.proofs.Moves.{is_some, same_state}
use Rattle.play.proofs.Lawful.{lawful}
use Rattle.play.proofs.Alikes.{alike}

-- a session that is not opened shows no row
not_shown : (o : Option state.Opened) → option_is_some o ≡ false → shown o ≡ false
not_shown (Some o) e = cc
not_shown None e = refl

none_shown : {H : Type 0} (m : Meaning) (s : Session H) → is_open s ≡ false → shown_row m s ≡ None
none_shown m s e = let h : is_shown s ≡ false = not_shown s.opened e in rw h refl

-- what one that is not opened is ready for
pub unopened_stands : {H : Type 0} (m : Meaning) (s : Session H) (a : List ℕ) → is_open s ≡ false → Ready m s a
unopened_stands m s a e =
    record {
      room = λ o. let y : true ≡ false = sym o ∙ e in cc;
      sound = record {
        places = λ o. let y : true ≡ false = sym o ∙ e in cc;
        as_many = λ o. let y : true ≡ false = sym o ∙ e in cc;
        carried = λ o. let y : true ≡ false = sym o ∙ e in cc;
        a_row = λ o. let y : true ≡ false = sym o ∙ not_shown s.opened e in cc;
      };
      holds = record { whole = λ r q. let y : ◌≡◌ {A = Option event.Row} None (Some r) = sym (none_shown m s e) ∙ q in cc };
    }

pub stands_if : {H : Type 0} (m : Meaning) (s : Session H) (a : List ℕ) → (b : Bool) → is_open s ≡ b → (is_open s ≡ true → Ready m s a) → Ready m s a
stands_if m s a true e h = h e
stands_if m s a false e h = unopened_stands m s a e

-- what the ideal session says to calls

pub told_asks : (x : State) (cs : List Call) → map (λ (e : Entry). e.asked) (told x cs) ≡ map asked_of cs
told_asks x [] = refl
told_asks x (c ∷ cs) = ap (λ (ys : List Asked). asked_of c ∷ ys) (told_asks (after x (asked_of c)) cs)

pub told_ideal : (x : State) (cs : List Call) → Ideal x (told x cs)
told_ideal x [] = tt
told_ideal x (c ∷ cs) = (refl, told_ideal (after x (asked_of c)) cs)

told_more : (x : State) (cs : List Call) (c : Call) → told x (cs ++ c ∷ []) ≡ told x cs ++ said_at (run x (told x cs)) (asked_of c) ∷ []
told_more x [] c = refl
told_more x (d ∷ cs) c = ap (λ (es : List Entry). said_at x (asked_of d) ∷ es) (told_more (after x (asked_of d)) cs c)

-- one more entry
run_more : (x : State) (es : List Entry) (e : Entry) → run x (es ++ e ∷ []) ≡ after (run x es) e.asked
run_more x [] e = refl
run_more x (d ∷ es) e = run_more (after x d.asked) es e

first_more : {X : Type 0} (o p q : Option X) → first_of (first_of o p) q ≡ first_of o (first_of p q)
first_more (Some x) p q = refl
first_more None p q = refl

granted_more : (es : List Entry) (e : Entry) → option_is_some (granted (es ++ e ∷ [])) ≡ (option_is_some (granted es) || option_is_some (granted_by e.asked e.said))
granted_more [] e = by_grant (granted_by e.asked e.said)
  where
    by_grant : {X : Type 0} (o : Option X) → option_is_some (first_of o None) ≡ option_is_some o
    by_grant (Some x) = refl
    by_grant None = refl
granted_more (d ∷ es) e = by_first (granted_by d.asked d.said) (granted (es ++ e ∷ [])) (granted es) (granted_by e.asked e.said) (granted_more es e)
  where
    by_first : {X : Type 0} (o p q r : Option X) → option_is_some p ≡ (option_is_some q || option_is_some r) → option_is_some (first_of o p) ≡ (option_is_some (first_of o q) || option_is_some r)
    by_first (Some x) p q r h = refl
    by_first None p q r h = h

-- the places, entry by entry
module _ (n : ℕ) (columns : List Column) where
  abbrev pub run_lay : Lay → List Entry → Lay
  run_lay l [] = l
  run_lay l (e ∷ es) = run_lay (lay_after n columns l e) es

  lay_more : (l : Lay) (es : List Entry) (e : Entry) → run_lay l (es ++ e ∷ []) ≡ lay_after n columns (run_lay l es) e
  lay_more l [] e = refl
  lay_more l (d ∷ es) e = lay_more (lay_after n columns l d) es e

  -- the furthest end is not less than that of the last lay
  last_reached : (l : Lay) (es : List Entry) → lay_end (run_lay l es) ≤ reach_from n columns l es
  last_reached l [] = omega arith
  last_reached l (d ∷ es) =
      let h = last_reached (lay_after n columns l d) es in
      let m = le-max_right (lay_end l) (reach_from n columns (lay_after n columns l d) es) in omega arith

  -- nor than it was before one more
  reach_grows : (l : Lay) (es : List Entry) (e : Entry) → (reach_from n columns l es ≤ reach_from n columns l (es ++ e ∷ [])) × (lay_end (lay_after n columns (run_lay l es) e) ≤ reach_from n columns l (es ++ e ∷ []))
  reach_grows l [] e = (le-max_left (lay_end l) (lay_end (lay_after n columns l e)), le-max_right (lay_end l) (lay_end (lay_after n columns l e)))
  reach_grows l (d ∷ es) e =
      let h = reach_grows (lay_after n columns l d) es e in
      let m = le-max_right (lay_end l) (reach_from n columns (lay_after n columns l d) (es ++ e ∷ [])) in
      (max_mono (lay_end l) (reach_from n columns (lay_after n columns l d) es) (reach_from n columns (lay_after n columns l d) (es ++ e ∷ [])) h.0, omega arith)
    where
      max_mono : (x y z : ℕ) → y ≤ z → max x y ≤ max x z
      max_mono x y z h = let p = le-max_left x z in let q = le-max_right x z in max-le (omega arith) (omega arith)

-- a lay is that of a session, and its end no further than what was reached
reach_past : {H : Type 0} (m m' : Meaning) (s s' : Session H) (n r r' : ℕ) (a₀ a a' : List ℕ) → lay_end (lay_of m s) ≤ r → r ≤ r' → lay_end (lay_of m' s') ≤ r' → Beyond r a₀ a → Beyond (max (lay_end (lay_of m s)) (lay_end (lay_of m' s'))) a a' → Beyond r' a₀ a'
reach_past m m' s s' n r r' a₀ a a' b g e h h' p l =
    let x : max (lay_end (lay_of m s)) (lay_end (lay_of m' s')) ≤ r' = max-le (omega arith) e in
    h' p (omega arith) ∙ h p (omega arith)

-- a session that is not opened stands for the ideal session at its start
pub new_is : {H : Type 0} (m : Meaning) (s : Session H) (a : List ℕ) → is_open s ≡ false → ideal_of m s a ≡ start m (length a)
new_is m s a o = same_state (ideal_of m s a) (start m (length a)) refl refl refl refl (rw o refl) (none_shown m s o)

-- the ideal session shows no row while nothing is bound
pub quiet : {H : Type 0} (m : Meaning) (s : Session H) (a : List ℕ) → (ideal_of m s a).bound ≡ None → (ideal_of m s a).shown ≡ None
quiet m s a e = none_shown m s (sym (is_some (is_open s) (pairs_of (table_of s))) ∙ ap option_is_some e)

neither : (b c : Bool) → (b || c) ≡ false → b ≡ false
neither true c e = cc
neither false c e = refl

-- a session that is not opened after a call was not before it
still_closed : {H : Type 0} (m m' : Meaning) (s s' : Session H) (a a' : List ℕ) (asked : Asked) → ideal_of m' s' a' ≡ after (ideal_of m s a) asked → is_open s' ≡ false → is_open s ≡ false
still_closed m m' s s' a a' asked e o =
    let x = ideal_of m s a in
    let w = step_went x asked (quiet m s a) in
    let g = option_is_some (granted_by asked (answer x asked)) in
    let opens : is_open s' ≡ (is_open s || g) =
    sym (is_some (is_open s') (pairs_of (table_of s'))) ∙ ap (λ (y : State). option_is_some y.bound) e ∙ w.opens ∙ ap (λ (b : Bool). b || g) (is_some (is_open s) (pairs_of (table_of s))) in
    neither (is_open s) g (sym opens ∙ o)

module _ {H L : Type 0} (means : H → Meaning) (heard : L → List Entry → Type 0) (s₀ : Session H) (a₀ : List ℕ) (l₀ : L) (calls : List Call) where
  abbrev pub first : State
  first = standing means s₀ a₀

  abbrev pub m₀ : Meaning
  m₀ = means s₀.host

  abbrev pub so_told : ℕ → List Entry
  so_told i = told first (take i calls)

  -- The first i calls are answered as the ideal session answers them, and the session stands for what that is after them.
  pub record Along (i : ℕ) (slip : Option Slip) (s : Session H) (a : List ℕ) (l : L) : Type 0 where
    pub long : length a ≡ length a₀
    pub hears : (before : List Entry) → heard l₀ before → heard l (before ++ so_told i)
    pub ready : Stands means s a
    pub at : standing means s a ≡ run first (so_told i)
    pub slip_given : option_is_some slip ≡ option_is_some (granted (so_told i))
    pub lay : lay_of (means s.host) s ≡ run_lay (length a₀) m₀.columns (lay_of m₀ s₀) (so_told i)
    pub past : Beyond (reach_from (length a₀) m₀.columns (lay_of m₀ s₀) (so_told i)) a₀ a
    pub untouched : is_open s ≡ false → Untouched m₀ (means s.host) a₀ a

  pub along_none : Stands means s₀ a₀ → Along 0 None s₀ a₀ l₀
  along_none ready =
      record {
        long = refl;
        hears = λ before h. subst (heard l₀) (sym (append-nil before)) h;
        ready = ready;
        at = refl;
        slip_given = refl;
        lay = refl;
        past = λ p l. refl;
        untouched = λ o. record { arena = refl; bound = refl; current = refl };
      }

  columns_kept : (i : ℕ) (slip : Option Slip) (s : Session H) (a : List ℕ) (l : L) → Along i slip s a l → (means s.host).columns ≡ m₀.columns
  columns_kept i slip s a l so_far = ap (λ (y : State). y.columns) so_far.at ∙ (went first (so_told i) (quiet m₀ s₀ a₀) (told_ideal first (take i calls))).columns

  pub along_more : (i : ℕ) → i < length calls → (d : Call) (slip slip' : Option Slip) (s s' : Session H) (a a' : List ℕ) (l l' : L) → length a' ≡ length a
      → (Stands means s a → Answered means heard (asked_of (get_or calls i d)) slip slip' s s' a a' l l')
      → Along i slip s a l → Along (i + 1) slip' s' a' l'
  along_more i le d slip slip' s s' a a' l l' long w so_far =
      let call : Call = get_or calls i d in
      let asked : Asked = asked_of call in
      let x : State = run first (so_told i) in
      let w' = w so_far.ready in
      let entry : Entry = said_at x asked in
      let entry_is : said_at (standing means s a) asked ≡ entry = ap (λ (y : State). said_at y asked) so_far.at in
      let grown : so_told (i + 1) ≡ so_told i ++ entry ∷ [] = ap (told first) (take_more calls i d le) ∙ told_more first (take i calls) call in
      let n = length a₀ in
      let lay₀ = lay_of m₀ s₀ in
      let lay_is : lay_of (means s'.host) s' ≡ lay_after n m₀.columns (run_lay n m₀.columns lay₀ (so_told i)) entry =
      w'.steps.reaches.lay
      ∙ ap (λ (k : ℕ). lay_after k (means s.host).columns (lay_of (means s.host) s) (said_at (standing means s a) asked)) so_far.long
      ∙ ap (λ (cs : List Column). lay_after n cs (lay_of (means s.host) s) (said_at (standing means s a) asked)) (columns_kept i slip s a l so_far)
      ∙ ap (λ (y : Lay). lay_after n m₀.columns y (said_at (standing means s a) asked)) so_far.lay
      ∙ ap (lay_after n m₀.columns (run_lay n m₀.columns lay₀ (so_told i))) entry_is in
      let g = reach_grows n m₀.columns lay₀ (so_told i) entry in
      let r = reach_from n m₀.columns lay₀ (so_told i) in
      let r' = reach_from n m₀.columns lay₀ (so_told i ++ entry ∷ []) in
      let b : lay_end (lay_of (means s.host) s) ≤ r = subst (λ (y : Lay). lay_end y ≤ r) (sym so_far.lay) (last_reached n m₀.columns lay₀ (so_told i)) in
      let b' : lay_end (lay_of (means s'.host) s') ≤ r' = subst (λ (y : Lay). lay_end y ≤ r') (sym lay_is) g.1 in
      let closed = still_closed (means s.host) (means s'.host) s s' a a' asked w'.steps.moved.to in
      record {
        long = long ∙ so_far.long;
        hears = λ before h.
            subst (λ (es : List Entry). heard l' (before ++ es)) (sym grown)
            (subst (heard l') (append_assoc before (so_told i) (entry ∷ []))
            (subst (λ (e : Entry). heard l' ((before ++ so_told i) ++ e ∷ [])) entry_is (w'.hears (before ++ so_told i) (so_far.hears before h))));
        ready = w'.steps.moved.ready;
        at = w'.steps.moved.to ∙ ap (λ (y : State). after y asked) so_far.at ∙ sym (run_more first (so_told i) entry) ∙ sym (ap (run first) grown);
        slip_given = w'.slip ∙ ap (λ (e : Entry). option_is_some slip || option_is_some (granted_by e.asked e.said)) entry_is ∙ ap (λ (b : Bool). b || option_is_some (granted_by entry.asked entry.said)) so_far.slip_given ∙ sym (granted_more (so_told i) entry) ∙ ap (λ (es : List Entry). option_is_some (granted es)) (sym grown);
        lay = lay_is ∙ sym (lay_more n m₀.columns lay₀ (so_told i) entry) ∙ sym (ap (run_lay n m₀.columns lay₀) grown);
        past = subst (λ (es : List Entry). Beyond (reach_from n m₀.columns lay₀ es) a₀ a') (sym grown) (reach_past (means s.host) (means s'.host) s s' n r r' a₀ a a' b g.0 b' so_far.past w'.steps.reaches.past);
        untouched = λ o.
            let u = w'.steps.reaches.untouched o in
            let v = so_far.untouched (closed o) in
            record { arena = u.arena ∙ v.arena; bound = u.bound ∙ v.bound; current = u.current ∙ v.current };
      }

  -- all calls
  pub heard_all : (i : ℕ) → length calls ≤ i → (slip : Option Slip) (s : Session H) (a : List ℕ) (l : L) → Along i slip s a l → Heard means heard calls slip s₀ s a₀ a l₀ l
  heard_all i le slip s a l so_far =
      let history : List Entry = told first calls in
      let all : so_told i ≡ history = ap (told first) (take_all i calls le) in
      let ideal = told_ideal first calls in
      let w = went first history (quiet m₀ s₀ a₀) ideal in
      let at : standing means s a ≡ run first history = so_far.at ∙ ap (run first) all in
      record {
        asks = told_asks first calls;
        hears = λ before h. subst (λ (es : List Entry). heard l (before ++ es)) all (so_far.hears before h);
        lawful = λ o. lawful m₀ (length a₀) history (subst (λ (x : State). Ideal x history) (new_is m₀ s₀ a₀ o) ideal);
        left = record {
          columns = ap (λ (y : State). y.columns) at ∙ w.columns;
          carries = ap (λ (y : State). y.carries) at ∙ w.carries;
          coming = ap (λ (y : State). y.coming) at ∙ w.coming;
          opened =
              sym (is_some (is_open s) (pairs_of (table_of s))) ∙ ap (λ (y : State). option_is_some y.bound) at ∙ w.opens
              ∙ ap (λ (b : Bool). b || option_is_some (granted history)) (is_some (is_open s₀) (pairs_of (table_of s₀)));
          slip_given = so_far.slip_given ∙ ap (λ (es : List Entry). option_is_some (granted es)) all;
          ready = so_far.ready;
          past = subst (λ (es : List Entry). Beyond (reach_from (length a₀) m₀.columns (lay_of m₀ s₀) es) a₀ a) all so_far.past;
          untouched = so_far.untouched;
        };
      }

-- two new sessions answer alike
pub heard_alike : {G H : Type 0} (means : G → Meaning) (means' : H → Meaning) (calls calls' : List Call) (s : Session G) (t : Session H) (a b : List ℕ) → HeardAlike means means' calls calls' s t a b
heard_alike means means' calls calls' s t a b o p =
    alike (means s.host) (means' t.host) (length a) (length b) (history_of means s a calls) (history_of means' t b calls')
    (subst (λ (x : State). Ideal x (history_of means s a calls)) (new_is (means s.host) s a o) (told_ideal (standing means s a) calls))
    (subst (λ (x : State). Ideal x (history_of means' t b calls')) (new_is (means' t.host) t b p) (told_ideal (standing means' t b) calls'))
