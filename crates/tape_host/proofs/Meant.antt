-- What a tape means, by what is left of its contents.
-- Assumes nothing.
use Rattle.std.proofs.Common.{◌≡◌, ℕ, min, List, [], ◌∷◌, map, length, Some, None, Option, sym, refl, ap, ◌∙◌, subst, arith}
use Rattle.std.specs.List.{flat_map}
use Rattle.mysql.specs.declared.bind.Column.{Column}
use Rattle.host.specs.declared.records.BindRecord.{BindRecord}
use Rattle.host.specs.Fields.{Field}
use Rattle.host.specs.Meanings.{Row, Meaning}
use Rattle.tape.specs.declared.event.Row.{Row as RowView}
use Rattle.tape.specs.declared.event.Event.TheVariants as view
use Rattle.tape.specs.Format as recorded
use Rattle.tape.specs.Unique.{contents_one, row_one}
use Rattle.tape.specs.Views.{RowShows, Next}
use Rattle.tape.specs.Recordings.{EventsLeft}
use Rattle.tape.proofs.Columned.{columns_count}
use Rattle.tape_host.specs.declared.current.Current.{Current}
use Rattle.tape_host.specs.declared.tapes.Tape.{Tape}
use Rattle.tape_host.specs.Formeds.{left_holds, row_holds}
use Rattle.tape_host.specs.Tapes.{own_code, shown, event_shown, left_of, row_of, columns_of, current_of, bound_of, means, Holds}

abbrev pub meaning_of : recorded.Contents → Option Row → Option (List BindRecord) → ℕ → Meaning
meaning_of k current bound error = record {
  columns = k.columns;
  carries = own_code k.columns;
  coming = map event_shown k.events;
  current = current;
  bound = bound;
  error = error;
}

pub means_is : (t : Tape) (k : recorded.Contents) (current : Option Row) (bound : Option (List BindRecord)) (error : ℕ) → EventsLeft t.events k → current_of t.current ≡ current → bound_of t ≡ bound → min t.error 65535 ≡ error
    → means t ≡ meaning_of k current bound error
means_is t k current bound error h a b c =
    let same = contents_one t.events.columns.now t.events.bytes.now t.events.count (left_of t) k (left_holds t) h in
    ap (λ (x : recorded.Contents). meaning_of x (current_of t.current) (bound_of t) (min t.error 65535)) same
    ∙ ap (λ (o : Option Row). meaning_of k o (bound_of t) (min t.error 65535)) a
    ∙ ap (λ (o : Option (List BindRecord)). meaning_of k current o (min t.error 65535)) b
    ∙ ap (meaning_of k current bound) c

-- a current row, by its fields
pub row_shown : (c : Current) (r : recorded.RowContents) → RowShows c.row r → current_of (Some c) ≡ Some (shown r.fields)
row_shown c r h = ap (λ (x : recorded.RowContents). Some (shown x.fields)) (row_one c.row.columns.now c.row.bytes.now (row_of c) r (row_holds c) h)

pub width_is : (t : Tape) → t.width ≡ length (columns_of t)
width_is t = omega (arith, t.wide, columns_count t.events.columns.now (columns_of t) (left_holds t).columns_in)

pub same_columns : (a b : List ℕ) (cs : List Column) → recorded.ColumnsIn a cs → recorded.ColumnsIn b cs → a ≡ b
same_columns a b cs h k = sym h.bytes_are ∙ k.bytes_are

-- the event that is next

pub none_next : (cs : List Column) (es : List recorded.Event) → Next cs es None → es ≡ []
none_next cs [] h = refl
none_next cs (e ∷ es) h = absurd h

pub record RowNext (cs : List Column) (es : List recorded.Event) (r : RowView) : Type 0 where
  pub fields : List Field
  pub others : List recorded.Event
  pub is : es ≡ recorded.row fields ∷ others
  pub shows : RowShows r (record { columns = cs; fields = fields; rest = flat_map recorded.event_bytes others })

pub row_next : (cs : List Column) (es : List recorded.Event) (r : RowView) → Next cs es (Some (view.Row r)) → RowNext cs es r
row_next cs [] r h = cc
row_next cs (recorded.row fs ∷ es) r h = record { fields = fs; others = es; is = refl; shows = h }
row_next cs (recorded.failure n ∷ es) r h = absurd h

pub failure_next : (cs : List Column) (es : List recorded.Event) (n : ℕ) → Next cs es (Some (view.Failure n)) → (others : List recorded.Event) × (es ≡ recorded.failure n ∷ others)
failure_next cs [] n h = cc
failure_next cs (recorded.row fs ∷ es) n h = absurd h
failure_next cs (recorded.failure m ∷ es) n h = (es, ap (λ (k : ℕ). recorded.failure k ∷ es) (sym h))

-- a new tape
pub new_holds : (bytes : List ℕ) (t : Tape) (k : recorded.Contents) → EventsLeft t.events k → ◌≡◌ {A = Option Row} (current_of t.current) None → bound_of t ≡ None → min t.error 65535 ≡ 0 → recorded.TapeOf bytes k → Holds bytes (means t)
new_holds bytes t k h a b c tape =
    subst (Holds bytes) (sym (means_is t k None None 0 h a b c))
    (record { contents = k; is_tape = tape; fresh = record { columns = refl; carries = refl; coming = refl; no_row = refl; not_bound = refl; no_error = refl } })
