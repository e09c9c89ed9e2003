-- A call of a session is a step of the ideal session that it stands for.
use Rattle.std.proofs.Common.{◌≡◌, ℕ, Bool, true, false, cond, eqb, List, [], ◌∷◌, length, is_some as option_is_some, Some, None, Ok, Err, Option, Result, sym, refl, ap, ◌∙◌}
use Rattle.std.proofs.lemmas.Bool.{eq-eqb}
use Rattle.mysql.specs.declared.backend.MysqlType.{MysqlType}
use Rattle.mysql.specs.declared.bind.Column.{Column}
use Rattle.mysql.specs.declared.fault.Fault.{Fault}
use Rattle.mysql.specs.declared.fault.Refusal.TheVariants.{Unopened}
use Rattle.mysql.specs.Faults.{refused}
use Rattle.host.specs.Meanings.{Row, Event, Meaning}
use Rattle.host.specs.Meanings as event
use Rattle.layout.specs.declared.table.ColumnTable.{ColumnTable}
use Rattle.rows.specs.declared.answers.Fetch.{Fetch}
use Rattle.session.specs.declared.answers.Slip.{Slip}
use Rattle.session.specs.declared.state.Session.{Session}
use Rattle.rows.specs.Dues as dues
use Rattle.session.specs.Sessions as session
use Rattle.rows.specs.Standing.{pairs_of}
use Rattle.session.specs.Sessions.{table_of, is_open, is_shown, shown_row, Sound, Holds, passes, past_checks, record_shown, OpeningGranted, OpeningRefused, AfterOpening, AfterFetch, NotFetched}
use Rattle.play.specs.Histories.{opening, fetch, Said, opened, refused_with}
use Rattle.play.specs.Rules.{opening_said, fetch_said, fetch_due, read_due}
use Rattle.play.specs.Machine.{State, opening_at, rest_of, shown_if, fetch_at}
use Rattle.play.specs.Moves.{ideal_of, Ready, Moved}

pub is_some : {X : Type 0} (b : Bool) (x : X) → option_is_some (cond b (Some x) None) ≡ b
is_some true x = refl
is_some false x = refl

-- two ideal sessions with equal parts
pub same_state : (x y : State) → x.columns ≡ y.columns → x.carries ≡ y.carries → x.arena ≡ y.arena → x.coming ≡ y.coming → x.bound ≡ y.bound → x.shown ≡ y.shown → x ≡ y
same_state x y p q r s t u = λ i. record { columns = p i; carries = q i; arena = r i; coming = s i; bound = t i; shown = u i }

-- a session that is not opened passes no check
pub unopened : {H X : Type 0} (s : Session H) (n : ℕ) (r : Result X Fault) → is_open s ≡ false → past_checks s n r ≡ Err (refused Unopened)
unopened s n r o = rw o refl

-- one that is opened over an arena of this length passes both
pub opened_past : {H X : Type 0} (s : Session H) (n : ℕ) (r : Result X Fault) → is_open s ≡ true → eqb n (table_of s).room ≡ true → past_checks s n r ≡ r
opened_past s n r o l = rw (o, l) refl

module _ {H : Type 0} (m : Meaning) (s : Session H) (a : List ℕ) (ready : Ready m s a) where
  pub same_length : is_open s ≡ true → eqb (length a) (table_of s).room ≡ true
  same_length o = eq-eqb (length a) (table_of s).room (sym (ready.room o))

  pub passed : is_open s ≡ true → passes s a ≡ true
  passed o = rw (o, same_length o) refl

  pub stopped : is_open s ≡ false → passes s a ≡ false
  stopped o = rw o refl

-- openings

-- what an opening says
abbrev pub slip_said : Result Slip Fault → Said
slip_said (Ok slip) = opened
slip_said (Err f) = refused_with f

module _ {H : Type 0} (m m' : Meaning) (s s' : Session H) (a a' : List ℕ) (wanted : List (Option MysqlType)) (long : length a' ≡ length a) (ready : Ready m s a) (sound : Sound m' s') (holds : Holds m' s' a') where
  granted_opening : (pairs : List Column) → OpeningGranted m m' s s' pairs a a' → ideal_of m' s' a' ≡ opening_at (ideal_of m s a) (Ok pairs)
  granted_opening pairs o =
      same_state (ideal_of m' s' a') (opening_at (ideal_of m s a) (Ok pairs))
      (rw o.host refl) (rw o.host refl) long (rw o.host refl) (rw (o.opened, o.bound_with) refl) (rw o.no_row refl)

  refused_opening : (f : Fault) → OpeningRefused f m m' s s' a a' → ideal_of m' s' a' ≡ ideal_of m s a
  refused_opening f o =
      same_state (ideal_of m' s' a') (ideal_of m s a)
      (rw o.host refl) (rw o.host refl) long (rw o.host refl) (rw (o.opened, o.table) refl) (rw (o.shown, o.host) refl)

  opening_by : (r : Result Slip Fault) (d : Result (List Column) Fault) → dues.opening (option_is_some (ideal_of m s a).bound) (length a) m.carries wanted m.columns ≡ d → AfterOpening r d m m' s s' a a'
      → Moved (ideal_of m s a) (opening wanted) (slip_said r) m' s' a'
  opening_by (Ok slip) (Ok pairs) e w =
      record {
        says = sym (ap opening_said e);
        to = granted_opening pairs w ∙ ap (opening_at (ideal_of m s a)) (sym e);
        ready = record { room = λ o. w.table.same_room ∙ sym long; sound = sound; holds = holds };
      }
  opening_by (Ok slip) (Err f) e w = absurd w
  opening_by (Err f) (Ok pairs) e w = absurd w
  opening_by (Err f) (Err g) e w =
      record {
        says = ap (λ (x : Fault). opening_said (Err x)) w.0 ∙ sym (ap opening_said e);
        to = refused_opening f w.1 ∙ ap (opening_at (ideal_of m s a)) (sym e);
        ready = record {
          room = λ o. ap (λ (t : ColumnTable). t.room) w.1.table ∙ ready.room (sym w.1.opened ∙ o) ∙ sym long;
          sound = sound;
          holds = holds;
        };
      }

  pub opening_moved : (r : Result Slip Fault) → AfterOpening r (dues.opening (is_open s) (length a) m.carries wanted m.columns) m m' s s' a a'
      → Moved (ideal_of m s a) (opening wanted) (slip_said r) m' s' a'
  opening_moved r w =
      opening_by r (dues.opening (is_open s) (length a) m.carries wanted m.columns)
      (ap (λ (b : Bool). dues.opening b (length a) m.carries wanted m.columns) (is_some (is_open s) (pairs_of (table_of s)))) w

-- a session stays as it is where an opening is refused
module _ {H : Type 0} (m m' : Meaning) (s s' : Session H) (a a' : List ℕ) where
  pub opens_not : (f : Fault) (d : Result (List Column) Fault) → AfterOpening (Err f) d m m' s s' a a' → is_open s' ≡ is_open s
  opens_not f (Ok pairs) w = absurd w
  opens_not f (Err g) w = w.1.opened

-- fetches

-- the ideal session after a fetch of one that is opened with these columns
module _ {H : Type 0} (m m' : Meaning) (s s' : Session H) (a a' : List ℕ) (long : length a' ≡ length a) where
  abbrev pub fetched_to : List Event → Result Fetch Fault → State
  fetched_to coming r = record { columns = m.columns; carries = m.carries; arena = length a; coming = rest_of coming; bound = Some (pairs_of (table_of s)); shown = shown_if r coming }

  -- from the parts that a fetch changes
  fetched_is : (coming : List Event) (r : Result Fetch Fault) → m'.columns ≡ m.columns → m'.carries ≡ m.carries → m'.coming ≡ rest_of coming → is_open s' ≡ true → pairs_of (table_of s') ≡ pairs_of (table_of s) → shown_row m' s' ≡ shown_if r coming → ideal_of m' s' a' ≡ fetched_to coming r
  fetched_is coming r cs ca co o ps sh =
      same_state (ideal_of m' s' a') (fetched_to coming r) cs ca long co
      (rw (o, ps) refl) sh

  hidden : is_shown s' ≡ false → shown_row m' s' ≡ None
  hidden e = rw e refl

  -- where no row was next, none is shown
  none_at_end : (r : Result Fetch Fault) → shown_if r [] ≡ None
  none_at_end (Ok x) = refl
  none_at_end (Err f) = refl

  none_at_failure : (r : Result Fetch Fault) (n : ℕ) (es : List Event) → shown_if r (event.failure n ∷ es) ≡ None
  none_at_failure (Ok x) n es = refl
  none_at_failure (Err f) n es = refl

  fetch_to : (coming : List Event) (r : Result Fetch Fault) → AfterFetch coming r m m' s s' a a'
      → (ideal_of m' s' a' ≡ fetched_to coming r) × ((table_of s').room ≡ (table_of s).room)
  fetch_to [] r w = (
    fetched_is [] r (rw w.host refl) (rw w.host refl) (rw w.host refl) w.opened (ap pairs_of w.table) (hidden w.no_row ∙ sym (none_at_end r)),
    ap (λ (t : ColumnTable). t.room) w.table,
  )
  fetch_to (event.failure n ∷ es) r w = (
    fetched_is (event.failure n ∷ es) r (rw w.host refl) (rw w.host refl) (rw w.host refl) w.opened (ap pairs_of w.table) (hidden w.no_row ∙ sym (none_at_failure r n es)),
    ap (λ (t : ColumnTable). t.room) w.table,
  )
  fetch_to (event.row x ∷ es) (Ok y) w = (
    fetched_is (event.row x ∷ es) (Ok y) (rw w.host refl) (rw w.host refl) (rw w.host refl) w.opened w.table.pairs
        (rw (w.shown, w.host) refl),
    w.table.room,
  )
  fetch_to (event.row x ∷ es) (Err y) w = (
    fetched_is (event.row x ∷ es) (Err y) (rw w.host refl) (rw w.host refl) (rw w.host refl) w.opened w.pairs (hidden w.no_row),
    w.places.room,
  )

module _ {H : Type 0} (m m' : Meaning) (s s' : Session H) (a a' : List ℕ) (long : length a' ≡ length a) (same_host : s' ≡ s → m' ≡ m) (ready : Ready m s a) (sound : Sound m' s') (holds : Holds m' s' a') (r : Result Fetch Fault) where
  abbrev there : Bool → State
  there b = fetch_at (ideal_of m s a) (cond b (Some (pairs_of (table_of s))) None)

  -- by whether the session is opened
  fetch_by : (b : Bool) → is_open s ≡ b → r ≡ session.fetch_answer s a m.coming → (passes s a ≡ false → NotFetched s s' a a') → (passes s a ≡ true → AfterFetch m.coming r m m' s s' a a')
      → (r ≡ fetch_due (cond b (Some (pairs_of (table_of s))) None) (length a) m.coming) × (ideal_of m' s' a' ≡ there b) × (is_open s' ≡ true → (table_of s').room ≡ length a')
  fetch_by false o e n w =
      let k = n (stopped m s a ready o) in (
        e ∙ unopened s (length a) (dues.fetched (pairs_of (table_of s)) (length a) m.coming) o,
        ap (λ (x : Meaning). ideal_of x s' a') (same_host k.same) ∙ ap (λ (x : Session H). ideal_of m x a') k.same ∙ ap (ideal_of m s) k.same_arena,
        λ p. ap (λ (x : Session H). (table_of x).room) k.same ∙ ready.room (ap (λ (x : Session H). is_open x) (sym k.same) ∙ p) ∙ sym long,
      )
  fetch_by true o e n w =
      let due : r ≡ dues.fetched (pairs_of (table_of s)) (length a) m.coming = e ∙ opened_past s (length a) (dues.fetched (pairs_of (table_of s)) (length a) m.coming) o (same_length m s a ready o) in
      let t = fetch_to m m' s s' a a' long m.coming r (w (passed m s a ready o)) in
      let still : fetched_to m m' s s' a a' long m.coming r ≡ there true =
      same_state (fetched_to m m' s s' a a' long m.coming r) (there true) refl refl refl refl (ap (λ (b : Bool). cond b (Some (pairs_of (table_of s))) None) (sym o)) (ap (λ (x : Result Fetch Fault). shown_if x m.coming) due) in
      (due, t.0 ∙ still, λ p. t.1 ∙ ready.room o ∙ sym long)

  -- from what a fetch ensures
  pub fetch_opened : r ≡ session.fetch_answer s a m.coming → (passes s a ≡ false → NotFetched s s' a a') → (passes s a ≡ true → AfterFetch m.coming r m m' s s' a a') → is_open s' ≡ is_open s
  fetch_opened e n w = sym (is_some (is_open s') (pairs_of (table_of s'))) ∙ ap (λ (x : State). option_is_some x.bound) (fetch_by (is_open s) refl e n w).1 ∙ there_opened (is_open s)
    where
      there_opened : (b : Bool) → option_is_some (there b).bound ≡ is_open s
      there_opened true = is_some (is_open s) (pairs_of (table_of s))
      there_opened false = is_some (is_open s) (pairs_of (table_of s))

  pub fetch_moved : r ≡ session.fetch_answer s a m.coming → (passes s a ≡ false → NotFetched s s' a a') → (passes s a ≡ true → AfterFetch m.coming r m m' s s' a a')
      → Moved (ideal_of m s a) fetch (fetch_said r) m' s' a'
  fetch_moved e n w =
      let f = fetch_by (is_open s) refl e n w in
      record {
        says = ap fetch_said f.0;
        to = f.1;
        ready = record { room = f.2; sound = sound; holds = holds };
      }

-- readings

module _ {H X : Type 0} (m : Meaning) (s : Session H) (a : List ℕ) (k : ℕ) (ready : Ready m s a) (reads : MysqlType → List ℕ → Result X Fault) (r : Result X Fault)
    (exact : r ≡ dues.read_as reads k (session.reading s a k))
    (by_row : Sound m s → Holds m s a → passes s a ≡ true → r ≡ dues.read_as reads k (dues.read (pairs_of (table_of s)) (shown_row m s) k)) where
  abbrev due : Bool → Result X Fault
  due b = dues.read_as reads k (read_due (cond b (Some (pairs_of (table_of s))) None) (shown_row m s) k)

  read_by : (b : Bool) → is_open s ≡ b → r ≡ due b
  read_by true o = by_row ready.sound ready.holds (passed m s a ready o)
  read_by false o =
      exact
      ∙ ap (dues.read_as reads k)
      (unopened s (length a) (session.looked (is_shown s) (table_of s) a k) o)

  -- from what a typed reading ensures
  pub read_is : r ≡ dues.read_as reads k (read_due (ideal_of m s a).bound (ideal_of m s a).shown k)
  read_is = read_by (is_open s) refl
