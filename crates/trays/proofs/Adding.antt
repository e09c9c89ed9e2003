-- The fields of the rows that are gone, added up, and those that are to come.
use Rattle.std.proofs.Common.{◌≡◌, ℕ, List, [], ◌∷◌, ◌++◌, append_assoc, Some, Ok, Err, Option, Result, sym, refl, ap, ◌∙◌}
use Rattle.std.proofs.lemmas.List.{append-nil}
use Rattle.mysql.specs.declared.bind.Column.{Column}
use Rattle.mysql.specs.declared.fault.Fault.{Fault}
use Rattle.mysql.specs.Answers.{through}
use Rattle.host.specs.Meanings.{Event, Meaning}
use Rattle.host.specs.Meanings as event
use Rattle.rows.specs.declared.answers.Fetch.{Fetch}
use Rattle.rows.specs.declared.answers.Fetch.TheVariants as fetch
use Rattle.rows.specs.Dues as dues
use Rattle.rows.specs.Dues.{TypedBytes}
use Rattle.session.specs.declared.state.Session.{Session}
use Rattle.session.specs.Sessions.{row_due}
use Rattle.going.specs.Going.{FaultOf, Going, Leaves}
use Rattle.trays.specs.declared.sums.Sums.{Sums}
use Rattle.trays.specs.Fields.{Field, bytes_shown, before_others, fields_of}
use Rattle.trays.specs.Sums.{AddsUp, SumsOf}

-- nothing before, and one field after some
through_none : (d : Result (List Field) Fault) → d ≡ through (λ fields. [] ++ fields) d
through_none (Ok fields) = refl
through_none (Err f) = refl

through_more : (seen : List Field) (x : Field) (d : Result (List Field) Fault) → through (λ fields. seen ++ fields) (through (λ fields. x ∷ fields) d) ≡ through (λ fields. (seen ++ x ∷ []) ++ fields) d
through_more seen x (Ok fields) = ap (λ (fs : List Field). Ok fs) (sym (append_assoc seen (x ∷ []) fields))
through_more seen x (Err f) = refl

module _ {H : Type 0} (means : H → Meaning) (m : Meaning) (pairs : List Column) (n : ℕ) where
  -- Of the rows that were to come some were seen and are added up, and the others are still to come.
  pub record Along (sums : Sums) (s : Session H) (a : List ℕ) : Type 0 where
    pub going : Going means m pairs n s a
    pub seen : List Field
    pub added : AddsUp sums seen
    pub ahead : fields_of pairs n m.coming ≡ through (λ fields. seen ++ fields) (fields_of pairs n (means s.host).coming)

  pub at_start : (sums : Sums) (s : Session H) (a : List ℕ) → Going means m pairs n s a → (means s.host).coming ≡ m.coming → AddsUp sums [] → Along sums s a
  at_start sums s a going first none = record { going = going; seen = []; added = none; ahead = rw first (through_none _) }

  -- what is due of an event that is refused
  refused_fields : (e : Event) (es : List Event) (f : Fault) → dues.fetched pairs n (e ∷ []) ≡ Err f → FaultOf e f → fields_of pairs n (e ∷ es) ≡ Err f
  refused_fields (event.row x) es f answer fault = rw answer refl
  refused_fields (event.failure k) es f answer fault = rw fault refl

  module _ (sums : Sums) (s s' : Session H) (a a' : List ℕ) (so_far : Along sums s a) (r : Result Fetch Fault) (w : Leaves means m pairs n r s s' a a') where
    abbrev fields : Session H → Result (List Field) Fault
    fields x = fields_of pairs n (means x.host).coming

    -- what is due, by what is due from here on
    from_here : (d : Result (List Field) Fault) → fields s ≡ d → fields_of pairs n m.coming ≡ through (λ others. so_far.seen ++ others) d
    from_here d e = so_far.ahead ∙ ap (through (λ others. so_far.seen ++ others)) e

    -- a row is shown, and this is read of it
    after_row : r ≡ Ok fetch.Row → (d : Result (Option TypedBytes) Fault) → d ≡ row_due means s' 0 → fields s ≡ before_others d (fields s')
    after_row is d read =
        let row = w.row is in
        let due : d ≡ dues.read pairs (Some row.is) 0 = read ∙ rw (w.going.bound, row.shown) refl in
        rw (row.next, row.answer, due) refl

    pub row_added : r ≡ Ok fetch.Row → (v : Option TypedBytes) (more : Sums) → Ok v ≡ row_due means s' 0
        → ((before : List Field) → AddsUp sums before → AddsUp more (before ++ bytes_shown v ∷ [])) → Along more s' a'
    row_added is v more read adds = record {
      going = w.going;
      seen = so_far.seen ++ bytes_shown v ∷ [];
      added = adds so_far.seen so_far.added;
      ahead = from_here _ (after_row is (Ok v) read) ∙ through_more so_far.seen (bytes_shown v) (fields s');
    }

    pub not_read : r ≡ Ok fetch.Row → (f : Fault) → Err f ≡ row_due means s' 0 → SumsOf (fields_of pairs n m.coming) (Err f)
    not_read is f read = rw (from_here _ (after_row is (Err f) read)) refl

    -- no row is left
    pub all_added : r ≡ Ok fetch.End → SumsOf (fields_of pairs n m.coming) (Ok sums)
    all_added is = rw (from_here (Ok []) (rw (w.end is).none refl) ∙ ap (λ (fs : List Field). Ok fs) (append-nil so_far.seen)) so_far.added

    -- an event is refused
    pub event_refused : (f : Fault) → r ≡ Err f → SumsOf (fields_of pairs n m.coming) (Err f)
    event_refused f is = let refused = w.refused f is in rw (from_here (Err f) (rw refused.next (refused_fields refused.is _ f refused.answer refused.fault))) refl
