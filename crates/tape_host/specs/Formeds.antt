-- What a tape means keeps to what every host's meaning keeps to. The proof stands here, since the host's ghost member names it, and such a
-- member may name nothing of proofs/.
use Rattle.std.proofs.Common.{refl, sym, subst, arith}
use Rattle.std.specs.Prelude.{◌≡◌, ℕ, zero, suc, List, [], ◌∷◌, map, length, get_or, Some, None, Option, ◌==◌, nat_lt, slice_index_or}
use Rattle.std.specs.Option.{ForSome}
use Rattle.std.specs.List.{AllByRecursion}
use Rattle.std.proofs.lemmas.Bool.{eqb-true, and_parts}
use Rattle.mysql.specs.declared.bind.Column.{Column}
use Rattle.host.specs.Fields.{Field, null, FieldAt}
use Rattle.host.specs.Meanings.{Formed, RowFits, EventFits, CurrentFits, no_column}
use Rattle.tape.specs.Format as recorded
use Rattle.tape.specs.Unique.{columns_in_one}
use Rattle.tape.specs.Views.{RowShows}
use Rattle.tape.specs.Recordings.{EventsLeft}
use Rattle.tape.proofs.Columned.{columns_count}
use Rattle.tape_host.specs.declared.current.Current.{Current}
use Rattle.tape_host.specs.declared.tapes.Tape.{Tape}
use Rattle.tape_host.specs.Tapes.{shown, event_shown, left_of, row_of, columns_of, current_of, means}

pub left_holds : (t : Tape) → EventsLeft t.events (left_of t)
unfolding left_of
left_holds t = t.left.1

pub row_holds : (c : Current) → RowShows c.row (row_of c)
unfolding row_of
row_holds c = c.shows.1

-- a field that a row has fits its column; past the last it is null
pub fields_fit : (cs : List Column) (fs : List Field) → recorded.RowOf cs fs → (k : ℕ) → FieldAt (get_or cs k no_column).code (slice_index_or fs k null)
fields_fit [] [] h k = tt
fields_fit [] (f ∷ fs) h k = absurd h
fields_fit (c ∷ cs) [] h k = absurd h
fields_fit (c ∷ cs) (f ∷ fs) h zero = h.0
fields_fit (c ∷ cs) (f ∷ fs) h (suc k) = fields_fit cs fs h.1 k

row_fits : (t : Tape) (fs : List Field) → recorded.RowOf (columns_of t) fs → RowFits (means t) (shown fs)
row_fits t fs h column code unsigned l e =
    let own = (and_parts (nat_lt column (length (columns_of t))) (code == (get_or (columns_of t) column no_column).code) e).1 in
    subst (λ (c : ℕ). FieldAt c (slice_index_or fs column null)) (sym (eqb-true code (get_or (columns_of t) column no_column).code own)) (fields_fit (columns_of t) fs h column)

event_fits : (t : Tape) (e : recorded.Event) → recorded.EventOf (columns_of t) e → EventFits (means t) (event_shown e)
event_fits t (recorded.row fs) h = row_fits t fs h
event_fits t (recorded.failure n) h = h

events_fit : (t : Tape) (es : List recorded.Event) → AllByRecursion (recorded.EventOf (columns_of t)) es → AllByRecursion (EventFits (means t)) (map event_shown es)
events_fit t [] h = tt
events_fit t (e ∷ es) h = (event_fits t e h.0, events_fit t es h.1)

current_fits : (t : Tape) (o : Option Current) → ForSome o (λ c. c.row.columns.now ≡ t.events.columns.now) → CurrentFits (means t) (current_of o)
current_fits t None h = tt
current_fits t (Some c) h =
    let r = row_of c in
    let listed = subst (λ (bs : List ℕ). recorded.ColumnsIn bs r.columns) (h c refl) (row_holds c).columns_in in
    let same = columns_in_one t.events.columns.now r.columns (columns_of t) listed (left_holds t).columns_in in
    row_fits t r.fields (subst (λ (cs : List Column). recorded.RowOf cs r.fields) same (row_holds c).row_of)

pub formed : (t : Tape) → Formed (means t)
formed t = record {
  few = omega (arith, t.few, t.wide, columns_count t.events.columns.now (columns_of t) (left_holds t).columns_in);
  columns_fit = (left_holds t).columns_in.fit;
  coming_fit = events_fit t (left_of t).events (left_holds t).events_in.events_of.1;
  current_fit = current_fits t t.current t.columned;
  error_fits = omega arith;
}
