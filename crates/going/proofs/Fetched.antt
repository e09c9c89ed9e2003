-- What a fetch of a session that goes through a result leaves.
use Rattle.std.proofs.Common.{◌≡◌, ℕ, ◌<◌, ◌≤◌, Bool, true, false, cond, eqb, List, [], ◌∷◌, length, Some, None, Ok, Err, Option, Result, get_or, sym, refl, ap, ◌∙◌, subst, arith}
use Rattle.std.proofs.lemmas.Bool.{eq-eqb}
use Rattle.mysql.specs.declared.bind.Column.{Column}
use Rattle.mysql.specs.declared.fault.Fault.{Fault}
use Rattle.mysql.specs.Faults.{host_error_of}
use Rattle.host.specs.Meanings.{Row, Event, row, failure, Meaning}
use Rattle.layout.specs.Tables.{end}
use Rattle.rows.specs.declared.answers.Fetch.{Fetch}
use Rattle.rows.specs.declared.answers.Fetch.TheVariants as fetch
use Rattle.rows.specs.Dues.{row_fetched, fetched}
use Rattle.rows.specs.Standing.{pairs_of, Regrown}
use Rattle.rows.specs.Reach.{capacities_of, grown, grown_if, capacities_after}
use Rattle.rows.proofs.Reaching.{same_capacities, grown_capacities}
use Rattle.session.specs.declared.state.Session.{Session}
use Rattle.session.specs.Sessions.{table_of, is_open, is_shown, shown_row, fetch_due, IsSound, HoldsRow, AfterFetch, Fetches}
use Rattle.session.proofs.Shows.{past, is_as_long}
use Rattle.going.specs.Going.{RowShown, AtEnd, Refused, Going, Leaves}

-- a row is not answered with the end
no_end : {A : Type 0} (loss : Option ℕ) (over : Bool) → Ok fetch.End ≡ row_fetched loss over → A
no_end (Some k) over e = absurd cc
no_end None true e = absurd cc
no_end None false e = absurd cc

-- what a row is refused with is no failure of the host
row_fault : (loss : Option ℕ) (over : Bool) (f : Fault) → Err f ≡ row_fetched loss over → host_error_of f ≡ None
row_fault (Some k) over f e = cc
row_fault None true f e = cc
row_fault None false f e = absurd cc

-- and leaves the places
kept_by : (pairs : List Column) (n : ℕ) (ns : List ℕ) (e : Event) (f : Fault) → fetched pairs n (e ∷ []) ≡ Err f → ns ≡ capacities_after pairs n ns e
kept_by pairs n ns (row x) f answer = ap (λ (r : Result Fetch Fault). grown_if r (grown pairs n x ns) ns) (sym answer)
kept_by pairs n ns (failure k) f answer = refl

module _ {H : Type 0} (means : H → Meaning) (m : Meaning) (pairs : List Column) (n : ℕ) (s s' : Session H) (a a' : List ℕ) (long : length a' ≡ length a) (going : Going means m pairs n s a) where
  -- it is answered as is due
  answered : (r : Result Fetch Fault) → r ≡ fetch_due means s a → r ≡ fetched pairs n (means s.host).coming
  answered r due =
      due ∙ past s a going.now.ready (fetched (pairs_of (table_of s)) (length a) (means s.host).coming)
      ∙ ap (λ (ps : List Column). fetched ps (length a) (means s.host).coming) going.bound ∙ ap (λ (k : ℕ). fetched pairs k (means s.host).coming) going.long

  module _ (sound : IsSound means s') (holds : HoldsRow means s' a') where
    goes_on : is_open s' ≡ true → (table_of s').room ≡ (table_of s).room → pairs_of (table_of s') ≡ pairs_of (table_of s)
        → (means s'.host).columns ≡ (means s.host).columns → (means s'.host).carries ≡ (means s.host).carries → Going means m pairs n s' a'
    goes_on opened room same_pairs columns carries =
        let as_long : eqb (length a') (table_of s').room ≡ true = eq-eqb (length a') (table_of s').room (long ∙ is_as_long s a going.now.ready ∙ sym room) in
        record {
          now = record { ready = rw (opened, as_long) refl; sound = sound; holds = holds };
          bound = same_pairs ∙ going.bound;
          long = long ∙ going.long;
          kept = record { columns = columns ∙ going.kept.columns; carries = carries ∙ going.kept.carries };
        }

    unshown : is_shown s' ≡ false → shown_row (means s'.host) s' ≡ None
    unshown e = ap (λ (b : Bool). cond b (means s'.host).current None) e

    abbrev Outside : Type 0
    Outside = (p : ℕ) → end (table_of s) ≤ p → end (table_of s') ≤ p → get_or a' p 0 ≡ get_or a p 0

    -- what came, by the answer
    abbrev Came : Result Fetch Fault → Type 0
    Came (Ok fetch.Row) = RowShown means pairs n s s'
    Came (Ok fetch.End) = AtEnd means s s'
    Came (Err f) = Refused means pairs n f s s'

    grows : (x : Row) → Ok fetch.Row ≡ fetched pairs n (row x ∷ []) → Regrown x (table_of s) (table_of s') → capacities_of (table_of s') ≡ capacities_after pairs n (capacities_of (table_of s)) (row x)
    grows x due w =
        let ns = capacities_of (table_of s) in
        let room : (table_of s).room ≡ n = sym (is_as_long s a going.now.ready) ∙ going.long in
        grown_capacities x (table_of s) (table_of s') w
        ∙ ap (λ (ps : List Column). grown ps (table_of s).room x ns) going.bound ∙ ap (λ (k : ℕ). grown pairs k x ns) room
        ∙ ap (λ (r : Result Fetch Fault). grown_if r (grown pairs n x ns) ns) due

    by_event : (coming : List Event) (r : Result Fetch Fault) → (means s.host).coming ≡ coming → r ≡ fetched pairs n coming → AfterFetch coming r (means s.host) (means s'.host) s s' a a' → Going means m pairs n s' a' × Outside × Came r
    by_event [] r next due w = (
      goes_on w.opened (rw w.table refl) (rw w.table refl) (rw w.host refl) (rw w.host refl),
      λ p l k. ap (λ (xs : List ℕ). get_or xs p 0) w.same_arena,
      subst Came (sym due) (record { none = next; still = rw w.host refl; shown = unshown w.no_row; capacities = ap capacities_of w.table }),
    )
    by_event (failure k ∷ es) r next due w = (
      goes_on w.opened (rw w.table refl) (rw w.table refl) (rw w.host refl) (rw w.host refl),
      λ p l k. w.outside p l,
      subst Came (sym due) (record { is = failure k; next = rw w.host next; answer = refl; fault = refl; shown = unshown w.no_row; capacities = ap capacities_of w.table }),
    )
    by_event (row x ∷ es) (Ok fetch.Row) next due w = (
      goes_on w.opened w.table.room w.table.pairs (rw w.host refl) (rw w.host refl),
      w.outside,
      record { is = x; next = rw w.host next; answer = sym due; shown = rw (w.shown, w.host) refl; capacities = grows x due w.table },
    )
    by_event (row x ∷ es) (Ok fetch.End) next due w = no_end _ _ due
    by_event (row x ∷ es) (Err f) next due w = (
      goes_on w.opened w.places.room w.pairs (rw w.host refl) (rw w.host refl),
      λ p l k. w.outside p l,
      record { is = row x; next = rw w.host next; answer = sym due; fault = row_fault _ _ f due; shown = unshown w.no_row; capacities = same_capacities (table_of s) (table_of s') w.places ∙ kept_by pairs n _ (row x) f (sym due) },
    )

    pub left : (r : Result Fetch Fault) → r ≡ fetch_due means s a → Fetches means r s s' a a' → Leaves means m pairs n r s s' a a'
    left r due w =
        let answer = answered r due in
        let came = by_event (means s.host).coming r refl answer w in
        record { answer = answer; going = came.0; outside = came.1; row = λ e. subst Came e came.2; end = λ e. subst Came e came.2; refused = λ f e. subst Came e came.2 }

-- fewer events are left after one is gone
pub shorter : {es es' : List Event} {e : Event} → es ≡ e ∷ es' → length es' < length es
shorter next = rw next (omega arith)
