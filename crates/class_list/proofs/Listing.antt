-- The lines of the events that are gone, and of those that are to come.
use Rattle.std.proofs.Common.{◌≡◌, ℕ, List, [], ◌∷◌, ◌++◌, append_assoc, Ok, Err, Result, sym, refl, ap, ◌∙◌, subst}
use Rattle.std.proofs.lemmas.List.{append-nil}
use Rattle.mysql.specs.declared.bind.Column.{Column}
use Rattle.mysql.specs.declared.fault.Fault.{Fault}
use Rattle.host.specs.Meanings.{Event, Meaning}
use Rattle.host.specs.Meanings as event
use Rattle.rows.specs.declared.answers.Fetch.{Fetch}
use Rattle.rows.specs.declared.answers.Fetch.TheVariants as fetch
use Rattle.rows.specs.Dues as dues
use Rattle.session.specs.declared.state.Session.{Session}
use Rattle.going.specs.Going.{FaultOf, Going, Leaves}
use Rattle.class_list.specs.Lines.{Line, row, line_of, lines_of}
use Rattle.class_list.specs.Steps.{refusal_line, row_due}

module _ {H L : Type 0} (means : H → Meaning) (heard : L → List Line → Type 0) (m : Meaning) (pairs : List Column) (n : ℕ) (l₀ : L) where
  -- the events that are gone have the lines that were told
  pub record Along (s : Session H) (a : List ℕ) (l : L) : Type 0 where
    pub going : Going means m pairs n s a
    pub lines : List Line
    pub listed : lines_of pairs n m.coming ≡ lines ++ lines_of pairs n (means s.host).coming
    pub told : (before : List Line) → heard l₀ before → heard l (before ++ lines)

  -- the line of a row that was refused, or of a failure
  refused_line : (e : Event) (f : Fault) → dues.fetched pairs n (e ∷ []) ≡ Err f → FaultOf e f → refusal_line f ≡ line_of pairs n e
  refused_line (event.row x) f answer fault = rw (fault, answer) refl
  refused_line (event.failure k) f answer fault = rw fault refl

  module _ (s s' : Session H) (a a' : List ℕ) (l l' : L) (so_far : Along s a l) (r : Result Fetch Fault) (w : Leaves means m pairs n r s s' a a') where
    abbrev Tells : Line → Type 0
    Tells line = (before : List Line) → heard l before → heard l' (before ++ line ∷ [])

    -- one more line
    one_more : (e : Event) (line : Line) → line ≡ line_of pairs n e → (means s.host).coming ≡ e ∷ (means s'.host).coming → Tells line → Along s' a' l'
    one_more e line is next tells = record {
      going = w.going;
      lines = so_far.lines ++ line ∷ [];
      listed = so_far.listed ∙ ap (λ (es : List Event). so_far.lines ++ lines_of pairs n es) next ∙ ap (λ (x : Line). so_far.lines ++ x ∷ lines_of pairs n (means s'.host).coming) (sym is)
          ∙ sym (append_assoc so_far.lines (line ∷ []) (lines_of pairs n (means s'.host).coming));
      told = λ before h. subst (λ (xs : List Line). heard l' xs) (append_assoc before so_far.lines (line ∷ [])) (tells (before ++ so_far.lines) (so_far.told before h));
    }

    pub row_told : r ≡ Ok fetch.Row → Tells (row (row_due means s')) → Along s' a' l'
    row_told is = let shown = w.row is in one_more (event.row shown.is) (row (row_due means s')) (rw (w.going.bound, shown.shown, shown.answer) refl) shown.next

    pub refusal_told : (f : Fault) → r ≡ Err f → Tells (refusal_line f) → Along s' a' l'
    refusal_told f is = let refused = w.refused f is in one_more refused.is (refusal_line f) (refused_line refused.is f refused.answer refused.fault) refused.next

    -- none was left
    pub all_told : r ≡ Ok fetch.End → (before : List Line) → heard l₀ before → heard l (before ++ lines_of pairs n m.coming)
    all_told is before h =
        let all : lines_of pairs n m.coming ≡ so_far.lines = so_far.listed ∙ ap (λ (es : List Event). so_far.lines ++ lines_of pairs n es) (w.end is).none ∙ append-nil so_far.lines in
        subst (λ (xs : List Line). heard l (before ++ xs)) (sym all) (so_far.told before h)
