-- What was said of the events that are gone, and what is still to be said.
use Rattle.std.proofs.Common.{◌≡◌, ℕ, List, [], ◌∷◌, ◌++◌, append_assoc, Some, Ok, Err, Result, sym, refl, ap, ◌∙◌, subst}
use Rattle.mysql.specs.declared.bind.Column.{Column}
use Rattle.mysql.specs.declared.fault.Fault.{Fault}
use Rattle.host.specs.Meanings.{Event, row, failure, Meaning}
use Rattle.rows.specs.declared.answers.Fetch.{Fetch}
use Rattle.rows.specs.declared.answers.Fetch.TheVariants as fetch
use Rattle.rows.specs.Dues.{fetched}
use Rattle.rows.specs.Standing.{pairs_of}
use Rattle.session.specs.declared.state.Session.{Session}
use Rattle.session.specs.Sessions.{table_of, shown_row}
use Rattle.going.specs.Going.{FaultOf, Going, Leaves}
use Rattle.walk.specs.Walks.{Said, refused, the_end, row_said, events_said}

module _ {H W : Type 0} (means : H → Meaning) (heard : W → List Said → Type 0) (m : Meaning) (pairs : List Column) (n : ℕ) (w₀ : W) where
  -- what was said is heard, and with what is still to be said it is all that was to be said
  pub record Along (s : Session H) (a : List ℕ) (w : W) : Type 0 where
    pub going : Going means m pairs n s a
    pub said : List Said
    pub due : events_said pairs n m.coming ≡ said ++ events_said pairs n (means s.host).coming
    pub told : (before : List Said) → heard w₀ before → heard w (before ++ said)

  -- an event that is refused says its fault
  refusal_said : (e : Event) (es : List Event) (f : Fault) → fetched pairs n (e ∷ []) ≡ Err f → FaultOf e f → events_said pairs n (e ∷ es) ≡ refused f ∷ events_said pairs n es
  refusal_said (row x) es f answer fault = rw answer refl
  refusal_said (failure k) es f answer fault = rw fault refl

  module _ (s s' : Session H) (a a' : List ℕ) (w w' : W) (so_far : Along s a w) (r : Result Fetch Fault) (left : Leaves means m pairs n r s s' a a') where
    more_said : (says : List Said) → events_said pairs n (means s.host).coming ≡ says ++ events_said pairs n (means s'.host).coming
        → ((before : List Said) → heard w before → heard w' (before ++ says)) → Along s' a' w'
    more_said says due tell = record {
      going = left.going;
      said = so_far.said ++ says;
      due = so_far.due ∙ ap (λ (xs : List Said). so_far.said ++ xs) due ∙ sym (append_assoc so_far.said says (events_said pairs n (means s'.host).coming));
      told = λ before h. subst (λ (xs : List Said). heard w' xs) (append_assoc before so_far.said says) (tell (before ++ so_far.said) (so_far.told before h));
    }

    -- a row is shown
    pub row_told : r ≡ Ok fetch.Row → ((before : List Said) → heard w before → heard w' (before ++ row_said (pairs_of (table_of s')) (shown_row (means s'.host) s'))) → Along s' a' w'
    row_told is tell =
        let shown = left.row is in
        let said : row_said (pairs_of (table_of s')) (shown_row (means s'.host) s') ≡ row_said pairs (Some shown.is) = rw (left.going.bound, shown.shown) refl in
        more_said (row_said pairs (Some shown.is)) (rw (shown.next, shown.answer) refl)
        (λ before h. subst (λ (xs : List Said). heard w' (before ++ xs)) said (tell before h))

    -- a row is refused, or a failure came
    pub refusal_told : (f : Fault) → r ≡ Err f → ((before : List Said) → heard w before → heard w' (before ++ refused f ∷ [])) → Along s' a' w'
    refusal_told f is tell =
        let event = left.refused f is in
        more_said (refused f ∷ []) (rw event.next (refusal_said event.is (means s'.host).coming f event.answer event.fault)) tell

    -- no event is left
    pub all_told : r ≡ Ok fetch.End → (Ends : List Said → Type 0) → ((before : List Said) → heard w before → Ends (before ++ the_end ∷ [])) → (before : List Said) → heard w₀ before → Ends (before ++ events_said pairs n m.coming)
    all_told is Ends tell before h =
        let due : events_said pairs n m.coming ≡ so_far.said ++ the_end ∷ [] = so_far.due ∙ ap (λ (es : List Event). so_far.said ++ events_said pairs n es) (left.end is).none in
        subst Ends (append_assoc before so_far.said (the_end ∷ []) ∙ ap (λ (xs : List Said). before ++ xs) (sym due)) (tell (before ++ so_far.said) (so_far.told before h))
