-- What the ideal session is after a history: its columns as bound, the events to come and whether a row is shown are what the history
-- says of itself.
use Rattle.std.proofs.Common.{◌≡◌, ℕ, ◌+◌, Bool, true, false, cond, ◌||◌, ltb, List, [], ◌∷◌, ◌++◌, drop, is_some, Some, None, Ok, Err, Option, Result, sym, refl, ap, ◌∙◌, subst, arith}
use Rattle.std.proofs.lemmas.List.{drop-drop}
use Rattle.mysql.specs.declared.backend.MysqlType.{MysqlType}
use Rattle.mysql.specs.declared.bind.Column.{Column}
use Rattle.mysql.specs.declared.fault.Fault.{Fault}
use Rattle.mysql.specs.declared.fault.Refusal.TheVariants.{ArenaLength, LayoutTooLong}
use Rattle.mysql.specs.Answers.{next}
use Rattle.mysql.specs.Faults.{refused, host_failed}
use Rattle.host.specs.Meanings.{Row, Event, Meaning}
use Rattle.host.specs.Meanings as event
use Rattle.host.specs.Calls.{unsupported_type}
use Rattle.layout.specs.Tables.{opening_size}
use Rattle.rows.specs.declared.answers.Fetch.{Fetch}
use Rattle.rows.specs.Bounds.{bound, all_carried, first_loss, row_need}
use Rattle.rows.specs.Dues as dues
use Rattle.play.specs.Histories.{Asked, opening, fetch, reading, integer, big_integer, time, Said, Entry, granted_by, granted, first_of, pairs_if, bound_with, removes, removed, shows_after, showing_from, NotFetch, NoFetch}
use Rattle.play.specs.Rules.{opening_said, fetch_said, fetch_due, reading_due}
use Rattle.play.specs.Machine.{State, start, opening_at, rest_of, shown_if, fetch_at, answer, after, Ideal}

-- what the session is after a history
abbrev pub run : State → List Entry → State
run s [] = s
run s (e ∷ es) = run (after s e.asked) es

-- the later part of what is said as the session says it
pub later : (s : State) (before rest : List Entry) → Ideal s (before ++ rest) → Ideal (run s before) rest
later s [] rest h = h
later s (e ∷ es) rest h = later (after s e.asked) es rest h.1

pub earlier : (s : State) (before rest : List Entry) → Ideal s (before ++ rest) → Ideal s before
earlier s [] rest h = tt
earlier s (e ∷ es) rest h = (h.0, earlier (after s e.asked) es rest h.1)

-- a reading says what is due
pub says_due : (s : State) (asked : Asked) (due : Said) → reading_due s.bound s.shown asked ≡ Some due → answer s asked ≡ due
says_due s (opening wanted) due e = cc
says_due s fetch due e = cc
says_due s (reading k) due e = cc
says_due s (integer k) due e = cc
says_due s (big_integer k) due e = cc
says_due s (time k) due e = cc

-- without a fetch, a session that is opened stays as it is
pub stays : (s : State) (pairs : List Column) → s.bound ≡ Some pairs → (asked : Asked) → NotFetch asked → after s asked ≡ s
stays s pairs b (opening wanted) h = ap (λ (o : Option (List Column)). opening_at s (dues.opening (is_some o) s.arena s.carries wanted s.columns)) b
stays s pairs b fetch h = absurd h
stays s pairs b (reading k) h = refl
stays s pairs b (integer k) h = refl
stays s pairs b (big_integer k) h = refl
stays s pairs b (time k) h = refl

pub rests : (s : State) (pairs : List Column) → s.bound ≡ Some pairs → (between : List Entry) → NoFetch between → run s between ≡ s
rests s pairs b [] h = refl
rests s pairs b (e ∷ es) h = ap (λ (x : State). run x es) (stays s pairs b e.asked h.0) ∙ rests s pairs b es h.1

-- a granted opening binds the columns with the codes and flags that are due

placed_same : (ps pairs : List Column) (long all : Bool) → cond long (Err (refused LayoutTooLong)) (cond all (Ok ps) (Err (host_failed unsupported_type))) ≡ Ok pairs → ps ≡ pairs
placed_same ps pairs true all e = cc
placed_same ps pairs false true e = cc
placed_same ps pairs false false e = cc

placed_binds : (n : ℕ) (carries : ℕ → ℕ → Bool) (pairs : List Column) (long : Bool) (b : Result (List Column) Fault) → cond long (Err (refused ArenaLength)) (next b (dues.placed n carries)) ≡ Ok pairs → b ≡ Ok pairs
placed_binds n carries pairs true b e = cc
placed_binds n carries pairs false (Ok ps) e = ap Ok (placed_same ps pairs (ltb n (opening_size ps)) (all_carried carries 0 ps) e)
placed_binds n carries pairs false (Err f) e = cc

pub opening_binds : (already : Bool) (n : ℕ) (carries : ℕ → ℕ → Bool) (wanted : List (Option MysqlType)) (columns pairs : List Column) → dues.opening already n carries wanted columns ≡ Ok pairs → bound wanted columns ≡ Ok pairs
opening_binds true n carries wanted columns pairs e = cc
opening_binds false n carries wanted columns pairs e = placed_binds n carries pairs (ltb dues.most_bytes n) (bound wanted columns) e

-- What a part of a history did to the session, by what it granted, how many events it removed, and whether it shows a row.
pub record Went (s t : State) (grants : Option (List (Option MysqlType))) (away : ℕ) (shows : Bool) : Type 0 where
  pub columns : t.columns ≡ s.columns
  pub carries : t.carries ≡ s.carries
  pub arena : t.arena ≡ s.arena
  pub coming : t.coming ≡ drop away s.coming
  pub bound_as : t.bound ≡ first_of s.bound (bound_with s.columns grants)
  pub opens : is_some t.bound ≡ (is_some s.bound || is_some grants)
  pub shows_as : is_some t.shown ≡ shows
  pub quiet : t.bound ≡ None → t.shown ≡ None

pub or_none : (b : Bool) → b ≡ (b || false)
or_none true = refl
or_none false = refl

first_none : {X : Type 0} (o : Option X) → o ≡ first_of o None
first_none (Some x) = refl
first_none None = refl

-- nothing was done
stood : (s : State) → (s.bound ≡ None → s.shown ≡ None) → Went s s None 0 (is_some s.shown)
stood s q = record { columns = refl; carries = refl; arena = refl; coming = refl; bound_as = first_none s.bound; opens = or_none (is_some s.bound); shows_as = refl; quiet = q }

-- openings
opening_went : (s : State) (wanted : List (Option MysqlType)) (b : Option (List Column)) (x : Result (List Column) Fault) → s.bound ≡ b → (s.bound ≡ None → s.shown ≡ None)
    → dues.opening (is_some b) s.arena s.carries wanted s.columns ≡ x
    → Went s (opening_at s x) (granted_by (opening wanted) (opening_said x)) 0 (is_some s.shown)
opening_went s wanted b (Err f) e q d = stood s q
opening_went s wanted (Some pairs) (Ok ps) e q d = cc
opening_went s wanted None (Ok ps) e q d =
    record {
      columns = refl;
      carries = refl;
      arena = refl;
      coming = refl;
      bound_as = ap pairs_if (sym (opening_binds false s.arena s.carries wanted s.columns ps d)) ∙ ap (λ (o : Option (List Column)). first_of o (bound_with s.columns (Some wanted))) (sym e);
      opens = ap (λ (o : Option (List Column)). is_some o || true) (sym e);
      shows_as = ap is_some (sym (q e));
      quiet = λ z. let y : ◌≡◌ {A = ℕ} 0 1 = cc in absurd (omega arith);
    }

-- fetches

rest_drops : (es : List Event) → rest_of es ≡ drop 1 es
rest_drops [] = refl
rest_drops (e ∷ es) = refl

-- a fetch of an opened session removes an event, and shows a row exactly where it says so
pub record Fetched (x : Result Fetch Fault) (coming : List Event) : Type 0 where
  pub away : removes fetch (fetch_said x) ≡ 1
  pub shows : is_some (shown_if x coming) ≡ shows_after false fetch (fetch_said x)

row_fetched : (loss : Option ℕ) (long : Bool) (r : Row) (es : List Event) → Fetched (dues.row_fetched loss long) (event.row r ∷ es)
row_fetched (Some k) long r es = record { away = refl; shows = refl }
row_fetched None true r es = record { away = refl; shows = refl }
row_fetched None false r es = record { away = refl; shows = refl }

pub fetched : (pairs : List Column) (n : ℕ) (coming : List Event) → Fetched (dues.fetched pairs n coming) coming
fetched pairs n [] = record { away = refl; shows = refl }
fetched pairs n (event.failure k ∷ es) = record { away = refl; shows = refl }
fetched pairs n (event.row r ∷ es) = row_fetched (first_loss r 0 pairs) (ltb n (row_need r 0 pairs)) r es

fetch_went : (s : State) (b : Option (List Column)) → s.bound ≡ b → (s.bound ≡ None → s.shown ≡ None)
    → Went s (fetch_at s b) None (removes fetch (fetch_said (fetch_due b s.arena s.coming))) (shows_after (is_some s.shown) fetch (fetch_said (fetch_due b s.arena s.coming)))
fetch_went s None e q =
    record { columns = refl; carries = refl; arena = refl; coming = refl; bound_as = first_none s.bound; opens = or_none (is_some s.bound); shows_as = ap is_some (q e); quiet = q }
fetch_went s (Some pairs) e q =
    let f = fetched pairs s.arena s.coming in
    record {
      columns = refl;
      carries = refl;
      arena = refl;
      coming = rest_drops s.coming ∙ ap (λ (k : ℕ). drop k s.coming) (sym f.away);
      bound_as = first_none s.bound;
      opens = or_none (is_some s.bound);
      shows_as = f.shows;
      quiet = λ z. let y : ◌≡◌ {A = ℕ} 0 1 = cc in absurd (omega arith);
    }

pub step_went : (s : State) (asked : Asked) → (s.bound ≡ None → s.shown ≡ None)
    → Went s (after s asked) (granted_by asked (answer s asked)) (removes asked (answer s asked)) (shows_after (is_some s.shown) asked (answer s asked))
step_went s (opening wanted) q = opening_went s wanted s.bound (dues.opening (is_some s.bound) s.arena s.carries wanted s.columns) refl q refl
step_went s fetch q = fetch_went s s.bound refl q
step_went s (reading k) q = stood s q
step_went s (integer k) q = stood s q
step_went s (big_integer k) q = stood s q
step_went s (time k) q = stood s q

-- one part after the other

first_some : {X : Type 0} (o p : Option X) → is_some o ≡ true → first_of o p ≡ o
first_some (Some x) p e = refl
first_some None p e = cc

bound_joined : (columns : List Column) (b : Option (List Column)) (g h : Option (List (Option MysqlType))) → is_some (first_of b (bound_with columns g)) ≡ (is_some b || is_some g)
    → first_of (first_of b (bound_with columns g)) (bound_with columns h) ≡ first_of b (bound_with columns (first_of g h))
bound_joined columns (Some ps) g h e = refl
bound_joined columns None None h e = refl
bound_joined columns None (Some w) h e = first_some (bound_with columns (Some w)) (bound_with columns h) e

opens_joined : (b : Bool) (g h : Option (List (Option MysqlType))) → ((b || is_some g) || is_some h) ≡ (b || is_some (first_of g h))
opens_joined true g h = refl
opens_joined false None h = refl
opens_joined false (Some w) h = refl

joined : (s t u : State) (g h : Option (List (Option MysqlType))) (j k : ℕ) (b c : Bool) → Went s t g j b → Went t u h k c → Went s u (first_of g h) (j + k) c
joined s t u g h j k b c p q =
    record {
      columns = q.columns ∙ p.columns;
      carries = q.carries ∙ p.carries;
      arena = q.arena ∙ p.arena;
      coming = q.coming ∙ ap (drop k) p.coming ∙ drop-drop k j s.coming;
      bound_as =
          q.bound_as
          ∙ ap (λ (x : List Column). first_of t.bound (bound_with x h)) p.columns
          ∙ ap (λ (x : Option (List Column)). first_of x (bound_with s.columns h)) p.bound_as
          ∙ bound_joined s.columns s.bound g h (sym (ap is_some p.bound_as) ∙ p.opens);
      opens = q.opens ∙ ap (λ (x : Bool). x || is_some h) p.opens ∙ opens_joined (is_some s.bound) g h;
      shows_as = q.shows_as;
      quiet = q.quiet;
    }

pub went : (s : State) (es : List Entry) → (s.bound ≡ None → s.shown ≡ None) → Ideal s es → Went s (run s es) (granted es) (removed es) (showing_from (is_some s.shown) es)
went s [] q h = stood s q
went s (e ∷ es) q h =
    let t = after s e.asked in
    let p : Went s t (granted_by e.asked e.said) (removes e.asked e.said) (shows_after (is_some s.shown) e.asked e.said) =
    subst (λ (x : Said). Went s t (granted_by e.asked x) (removes e.asked x) (shows_after (is_some s.shown) e.asked x)) (sym h.0) (step_went s e.asked q) in
    let r = went t es p.quiet h.1 in
    let r' : Went t (run t es) (granted es) (removed es) (showing_from (shows_after (is_some s.shown) e.asked e.said) es) =
    subst (λ (b : Bool). Went t (run t es) (granted es) (removed es) (showing_from b es)) p.shows_as r in
    joined s t (run t es) (granted_by e.asked e.said) (granted es) (removes e.asked e.said) (removed es) (shows_after (is_some s.shown) e.asked e.said) (showing_from (shows_after (is_some s.shown) e.asked e.said) es) p r'

-- a history from the start
pub from_start : (m : Meaning) (n : ℕ) (es : List Entry) → Ideal (start m n) es → Went (start m n) (run (start m n) es) (granted es) (removed es) (showing_from false es)
from_start m n es h = went (start m n) es (λ e. refl) h
