-- What each call does to the places of the columns, and how far into the arena it reaches.
use Rattle.std.proofs.Common.{◌≡◌, ℕ, ◌≤◌, max, Bool, true, false, cond, List, [], ◌∷◌, length, drop, slice_index, is_some, Some, Ok, Err, Option, Result, sym, refl, ap, ◌∙◌, subst, arith}
use Rattle.std.proofs.Math.Nat.{le-max_left, le-max_right}
use Rattle.mysql.specs.declared.backend.MysqlType.{MysqlType}
use Rattle.mysql.specs.declared.bind.Column.{Column}
use Rattle.mysql.specs.declared.fault.Fault.{Fault}
use Rattle.mysql.specs.declared.fault.Refusal.TheVariants.{Unopened}
use Rattle.mysql.specs.Faults.{refused}
use Rattle.host.specs.Meanings.{Row, Event, Meaning}
use Rattle.host.specs.Meanings as event
use Rattle.layout.specs.Tables.{end}
use Rattle.layout.specs.Moves.{Beyond}
use Rattle.rows.specs.declared.answers.Fetch.{Fetch}
use Rattle.rows.specs.Bounds.{bound}
use Rattle.rows.specs.Dues as dues
use Rattle.rows.specs.Standing.{pairs_of}
use Rattle.session.specs.declared.answers.Slip.{Slip}
use Rattle.session.specs.declared.state.Session.{Session}
use Rattle.session.specs.Sessions as session
use Rattle.session.specs.Sessions.{table_of, is_open, passes, AfterOpening, AfterFetch, NotFetched}
use Rattle.play.specs.Histories.{Asked, opening, fetch, reading, integer, big_integer, time, Said, pairs_if, removes, shows_after, IsReading}
use Rattle.play.specs.Rules.{opening_said, fetch_said}
use Rattle.play.specs.Lays.{next_row, Lay, lay_end, shown_in, pairs_in, opened_in, lay_after}
use Rattle.play.specs.Moves.{lay_of, Ready, Untouched, Reaches}
use Rattle.rows.specs.Reach.{capacities_of, grown}
use Rattle.rows.proofs.Reaching.{end_is, opening_capacities, same_capacities, grown_capacities}
use Rattle.play.specs.Machine.{shown_if}
use Rattle.play.proofs.Runs.{opening_binds, Fetched, fetched}
use Rattle.play.proofs.Moves.{unopened, opened_past, same_length, passed, stopped}

-- what is beyond one end is beyond a further one
beyond_right : (x y : ℕ) (a b : List ℕ) → Beyond y a b → Beyond (max x y) a b
beyond_right x y a b h p l = let m = le-max_right x y in h p (omega arith)

beyond_left : (x y : ℕ) (a b : List ℕ) → Beyond x a b → Beyond (max x y) a b
beyond_left x y a b h p l = let m = le-max_left x y in h p (omega arith)

beyond_both : (x y : ℕ) (a b : List ℕ) → ((p : ℕ) → x ≤ p → y ≤ p → slice_index b p ≡ slice_index a p) → Beyond (max x y) a b
beyond_both x y a b h p l = let m = le-max_left x y in let n = le-max_right x y in h p (omega arith) (omega arith)

-- nothing changed
beyond_same : (n : ℕ) (a b : List ℕ) → b ≡ a → Beyond n a b
beyond_same n a b e p l = ap (λ (xs : List ℕ). slice_index xs p) e

same_lay : (x y : Lay) → x.pairs ≡ y.pairs → x.capacities ≡ y.capacities → x.coming ≡ y.coming → x ≡ y
same_lay x y o p q = λ i. record { pairs = o i; capacities = p i; coming = q i }

-- readings: session, host and arena are as they were
pub reading_reaches : {H : Type 0} (asked : Asked) (said : Said) (m : Meaning) (s : Session H) (a : List ℕ) → IsReading asked → Reaches asked said m m s s a a
reading_reaches (opening wanted) said m s a h = absurd h
reading_reaches fetch said m s a h = absurd h
reading_reaches (reading k) said m s a h = record { lay = refl; past = λ p l. refl; untouched = λ o. record { arena = refl; bound = refl; current = refl } }
reading_reaches (integer k) said m s a h = record { lay = refl; past = λ p l. refl; untouched = λ o. record { arena = refl; bound = refl; current = refl } }
reading_reaches (big_integer k) said m s a h = record { lay = refl; past = λ p l. refl; untouched = λ o. record { arena = refl; bound = refl; current = refl } }
reading_reaches (time k) said m s a h = record { lay = refl; past = λ p l. refl; untouched = λ o. record { arena = refl; bound = refl; current = refl } }

-- openings

module _ {H : Type 0} (m m' : Meaning) (s s' : Session H) (a a' : List ℕ) (wanted : List (Option MysqlType)) where
  opening_by : (r : Result Slip Fault) (d : Result (List Column) Fault) → dues.opening (is_open s) (length a) m.carries wanted m.columns ≡ d → AfterOpening r d m m' s s' a a'
      → Reaches (opening wanted) (opening_said d) m m' s s' a a'
  opening_by (Ok slip) (Ok pairs) e w =
      let binds : pairs_if (bound wanted m.columns) ≡ Some pairs = ap pairs_if (opening_binds (is_open s) (length a) m.carries wanted m.columns pairs e) in
      record {
        lay = same_lay _ _
            (w.bound_with ∙ sym (ap (λ (x : Option (List Column)). pairs_in x (pairs_of (table_of s))) binds))
            (opening_capacities pairs (length a) (table_of s') w.table ∙ sym (ap (λ (x : Option (List Column)). opened_in x (capacities_of (table_of s))) binds))
            (ap (λ (x : Meaning). x.coming) w.host);
        past = beyond_right (lay_end (lay_of m s)) (lay_end (lay_of m' s')) a a' (subst (λ (n : ℕ). Beyond n a a') (sym (end_is (table_of s'))) w.others);
        untouched = λ q. let y : true ≡ false = sym w.opened ∙ q in cc;
      }
  opening_by (Ok slip) (Err f) e w = absurd w
  opening_by (Err f) (Ok pairs) e w = absurd w
  opening_by (Err f) (Err g) e w =
      let o = w.1 in
      record {
        lay = same_lay _ _ (ap pairs_of o.table) (ap capacities_of o.table) (ap (λ (x : Meaning). x.coming) o.host);
        past = beyond_same (max (lay_end (lay_of m s)) (lay_end (lay_of m' s'))) a a' o.same_arena;
        untouched = λ q. record { arena = o.same_arena; bound = ap (λ (x : Meaning). x.bound) o.host; current = ap (λ (x : Meaning). x.current) o.host };
      }

  pub opening_reaches : (r : Result Slip Fault) (said : Said) → said ≡ opening_said (dues.opening (is_open s) (length a) m.carries wanted m.columns) → AfterOpening r (dues.opening (is_open s) (length a) m.carries wanted m.columns) m m' s s' a a'
      → Reaches (opening wanted) said m m' s s' a a'
  opening_reaches r said e w = subst (λ (x : Said). Reaches (opening wanted) x m m' s s' a a') (sym e) (opening_by r (dues.opening (is_open s) (length a) m.carries wanted m.columns) refl w)

-- fetches

-- the lay after a fetch that removed an event
fetch_lay : (n : ℕ) (columns : List Column) (l : Lay) (said : Said) (b : Bool) → removes fetch said ≡ 1 → shows_after false fetch said ≡ b
    → lay_after n columns l (record { asked = fetch; said = said }) ≡ record { pairs = l.pairs; capacities = cond b (shown_in n l.pairs (next_row l.coming) l.capacities) l.capacities; coming = drop 1 l.coming }
fetch_lay n columns l said b e q = rw (e, q) refl

module _ {H : Type 0} (m m' : Meaning) (s s' : Session H) (a a' : List ℕ) where
  abbrev before : ℕ
  before = lay_end (lay_of m s)

  abbrev behind : ℕ
  behind = lay_end (lay_of m' s')

  still_open : is_open s' ≡ true → is_open s' ≡ false → Untouched m m' a a'
  still_open o q = let y : true ≡ false = sym o ∙ q in cc

  -- where the places are as they were
  stays_put : (coming : List Event) (x : Result Fetch Fault) → m.coming ≡ coming → removes fetch (fetch_said x) ≡ 1 → shows_after false fetch (fetch_said x) ≡ false
      → pairs_of (table_of s') ≡ pairs_of (table_of s) → capacities_of (table_of s') ≡ capacities_of (table_of s) → m'.coming ≡ drop 1 coming → is_open s' ≡ true → Beyond (end (table_of s)) a a'
      → Reaches fetch (fetch_said x) m m' s s' a a'
  stays_put coming x c q z ps ns h o out =
      record {
        lay = same_lay _ _ ps ns (h ∙ ap (drop 1) (sym c)) ∙ sym (fetch_lay (length a) m.columns (lay_of m s) (fetch_said x) false q z);
        past = beyond_left before behind a a' (subst (λ (n : ℕ). Beyond n a a') (sym (end_is (table_of s))) out);
        untouched = still_open o;
      }

  none_shown_at_end : (x : Result Fetch Fault) → is_some (shown_if x []) ≡ false
  none_shown_at_end (Ok y) = refl
  none_shown_at_end (Err f) = refl

  none_shown_at_failure : (x : Result Fetch Fault) (n : ℕ) (es : List Event) → is_some (shown_if x (event.failure n ∷ es)) ≡ false
  none_shown_at_failure (Ok y) n es = refl
  none_shown_at_failure (Err f) n es = refl

  fetched_reaches : (coming : List Event) (x : Result Fetch Fault) → m.coming ≡ coming → (table_of s).room ≡ length a → Fetched x coming → AfterFetch coming x m m' s s' a a' → Reaches fetch (fetch_said x) m m' s s' a a'
  fetched_reaches [] x c room f w =
      stays_put [] x c f.away (sym f.shows ∙ none_shown_at_end x) (ap pairs_of w.table) (ap capacities_of w.table) (ap (λ (y : Meaning). y.coming) w.host) w.opened (beyond_same (end (table_of s)) a a' w.same_arena)
  fetched_reaches (event.failure n ∷ es) x c room f w =
      stays_put (event.failure n ∷ es) x c f.away (sym f.shows ∙ none_shown_at_failure x n es) (ap pairs_of w.table) (ap capacities_of w.table) (ap (λ (y : Meaning). y.coming) w.host) w.opened w.outside
  fetched_reaches (event.row r ∷ es) (Err y) c room f w =
      stays_put (event.row r ∷ es) (Err y) c f.away (sym f.shows) w.pairs (same_capacities (table_of s) (table_of s') w.places) (ap (λ (z : Meaning). z.coming) w.host) w.opened w.outside
  fetched_reaches (event.row r ∷ es) (Ok y) c room f w =
      record {
        lay = same_lay _ _
            w.table.pairs
            (grown_capacities r (table_of s) (table_of s') w.table ∙ ap (λ (n : ℕ). grown (pairs_of (table_of s)) n r (capacities_of (table_of s))) room
            ∙ ap (λ (x : List Event). shown_in (length a) (pairs_of (table_of s)) (next_row x) (capacities_of (table_of s))) (sym c))
            (ap (λ (z : Meaning). z.coming) w.host ∙ ap (drop 1) (sym c))
            ∙ sym (fetch_lay (length a) m.columns (lay_of m s) (fetch_said (Ok y)) true f.away (sym f.shows));
        past = beyond_both before behind a a'
            (λ p l k. let l' : end (table_of s) ≤ p = rw (sym (end_is (table_of s))) l in let k' : end (table_of s') ≤ p = rw (sym (end_is (table_of s'))) k in w.outside p l' k');
        untouched = still_open w.opened;
      }

  -- where it did not pass its checks: 1
  unfetched_reaches : m' ≡ m → NotFetched s s' a a' → Reaches fetch (fetch_said (Err (refused Unopened))) m m' s s' a a'
  unfetched_reaches e w =
      record {
        lay = same_lay _ _ (ap (λ (x : Session H). pairs_of (table_of x)) w.same) (ap (λ (x : Session H). capacities_of (table_of x)) w.same) (ap (λ (x : Meaning). x.coming) e);
        past = beyond_same (max before behind) a a' w.same_arena;
        untouched = λ q. record { arena = w.same_arena; bound = ap (λ (x : Meaning). x.bound) e; current = ap (λ (x : Meaning). x.current) e };
      }

  module _ (ready : Ready m s a) (same_host : s' ≡ s → m' ≡ m) (r : Result Fetch Fault) where
    fetch_by : (b : Bool) → is_open s ≡ b → r ≡ session.fetch_answer s a m.coming → (passes s a ≡ false → NotFetched s s' a a') → (passes s a ≡ true → AfterFetch m.coming r m m' s s' a a') → Reaches fetch (fetch_said r) m m' s s' a a'
    fetch_by false o e n w =
        let q = n (stopped m s a ready o) in
        subst (λ (x : Result Fetch Fault). Reaches fetch (fetch_said x) m m' s s' a a') (sym (e ∙ unopened s (length a) (dues.fetched (pairs_of (table_of s)) (length a) m.coming) o))
        (unfetched_reaches (same_host q.same) q)
    fetch_by true o e n w =
        let due : r ≡ dues.fetched (pairs_of (table_of s)) (length a) m.coming = e ∙ opened_past s (length a) (dues.fetched (pairs_of (table_of s)) (length a) m.coming) o (same_length m s a ready o) in
        fetched_reaches m.coming r refl (ready.room o) (subst (λ (x : Result Fetch Fault). Fetched x m.coming) (sym due) (fetched (pairs_of (table_of s)) (length a) m.coming)) (w (passed m s a ready o))

    pub fetch_reaches : (said : Said) → said ≡ fetch_said r → r ≡ session.fetch_answer s a m.coming → (passes s a ≡ false → NotFetched s s' a a') → (passes s a ≡ true → AfterFetch m.coming r m m' s s' a a') → Reaches fetch said m m' s s' a a'
    fetch_reaches said z e n w = subst (λ (x : Said). Reaches fetch x m m' s s' a a') (sym z) (fetch_by (is_open s) refl e n w)
