-- A search for the first row of a class.
use Rattle.std.proofs.Common.{◌≡◌, ℕ, ◌^◌, ℤ, true, false, List, [], ◌∷◌, ◌++◌, inl, inr, Some, None, Ok, Err, Option, Result, length, sym, refl, ap, ◌∙◌, subst}
use Rattle.std.proofs.lemmas.List.{append-nil, append_assoc}
use Rattle.std.specs.List.{AllByRecursion}
use Rattle.mysql.specs.declared.bind.Column.{Column}
use Rattle.mysql.specs.declared.fault.Fault.{Fault}
use Rattle.host.specs.Meanings.{Event, row, failure, Meaning}
use Rattle.rows.specs.declared.answers.Fetch.{Fetch}
use Rattle.rows.specs.declared.answers.Fetch.TheVariants as fetch
use Rattle.readings.specs.Integers.{integer}
use Rattle.rows.specs.Dues.{read, read_as, fetched}
use Rattle.session.specs.declared.state.Session.{Session}
use Rattle.session.specs.Sessions.{row_due, table_of}
use Rattle.rows.specs.Reach.{capacities_of, first_capacities, capacities_after}
use Rattle.going.specs.Going.{Going, Leaves, RowShown}
use Rattle.going.specs.Arenas.{LeavesArena}
use Rattle.going.proofs.Reached.{Reached, one_more, no_more}
use Rattle.outlets.specs.Events.{is_row}
use Rattle.outlets.specs.Outlets.{as_text, outlet_of, some_if, ShowsClass, Copied, OutletIn}

module _ {H : Type 0} (means : H → Meaning) (m : Meaning) (pairs : List Column) (a₀ : List ℕ) (class : ℤ) where
  abbrev n : ℕ
  n = length a₀

  abbrev pub ShowsNone : Event → Type 0
  ShowsNone e = ShowsClass pairs n class e → ⊥

  all_and_one : (xs : List Event) (e : Event) → AllByRecursion ShowsNone xs → ShowsNone e → AllByRecursion ShowsNone (xs ++ e ∷ [])
  all_and_one [] e h k = (k, tt)
  all_and_one (x ∷ xs) e h k = (h.0, all_and_one xs e h.1 k)

  -- an event that is refused shows no row
  refused_shows : (e : Event) (f : Fault) → fetched pairs n (e ∷ []) ≡ Err f → ShowsNone e
  refused_shows (row x) f answer = λ k. let j : true ≡ false = sym k.0 ∙ ap is_row answer in cc
  refused_shows (failure k) f answer = λ z. z

  -- the events before those to come show no row of the class, and nothing was copied
  pub record Searching (into : List ℕ) (s : Session H) (a into' : List ℕ) : Type 0 where
    pub going : Going means m pairs n s a
    pub before : List Event
    pub there : m.coming ≡ before ++ (means s.host).coming
    pub none : AllByRecursion ShowsNone before
    pub reached : Reached means m pairs n (first_capacities pairs) a₀ before s a
    pub same : into' ≡ into

  pub at_start : (into : List ℕ) (s : Session H) → Going means m pairs n s a₀ → m.coming ≡ (means s.host).coming → capacities_of (table_of s) ≡ first_capacities pairs → Searching into s a₀ into
  at_start into s going there first = record { going = going; before = []; there = there; none = tt; reached = record { capacities = first; beyond = λ p l. refl }; same = refl }

  module _ (into : List ℕ) (s s' : Session H) (a a' into' : List ℕ) (so_far : Searching into s a into') (r : Result Fetch Fault) (w : Leaves means m pairs n r s s' a a') where
    -- the next event shows no row of the class either
    passed_over : (e : Event) → (means s.host).coming ≡ e ∷ (means s'.host).coming → ShowsNone e → capacities_of (table_of s') ≡ capacities_after pairs n (capacities_of (table_of s)) e → Searching into s' a' into'
    passed_over e next none after = record {
      going = w.going;
      before = so_far.before ++ e ∷ [];
      there = so_far.there ∙ ap (λ (ys : List Event). so_far.before ++ ys) next ∙ sym (append_assoc so_far.before (e ∷ []) (means s'.host).coming);
      none = all_and_one so_far.before e so_far.none none;
      reached = one_more _ _ _ _ _ _ so_far.before s s' a a' so_far.reached r w e after;
      same = so_far.same;
    }

    -- what is read of the row that is shown
    read_is : (shown : RowShown means pairs n s s') (k : ℕ) → row_due means s' k ≡ read pairs (Some shown.is) k
    read_is shown k = rw (w.going.bound, shown.shown) refl

    class_is : (shown : RowShown means pairs n s s') → read_as (integer (2 ^ 31)) 0 (row_due means s' 0) ≡ read_as (integer (2 ^ 31)) 0 (read pairs (Some shown.is) 0)
    class_is shown = ap (read_as (integer (2 ^ 31)) 0) (read_is shown 0)

    pub another_class : r ≡ Ok fetch.Row → (read_as (integer (2 ^ 31)) 0 (row_due means s' 0) ≡ Ok class → ⊥) → Searching into s' a' into'
    another_class is other = let shown = w.row is in passed_over (row shown.is) shown.next (λ h. other (class_is shown ∙ h.1)) shown.capacities

    pub no_row : (f : Fault) → r ≡ Err f → Searching into s' a' into'
    no_row f is = let refused = w.refused f is in passed_over refused.is refused.next (refused_shows refused.is f refused.answer) refused.capacities

    -- the end
    pub not_found : r ≡ Ok fetch.End → OutletIn pairs a₀ a' class m.coming into (Ok None) into'
    not_found is =
        let all : m.coming ≡ so_far.before = so_far.there ∙ ap (λ (ys : List Event). so_far.before ++ ys) (w.end is).none ∙ append-nil so_far.before in
        let now = no_more _ _ _ _ _ _ so_far.before s s' a a' so_far.reached r w (w.end is).capacities in
        inr (record { nowhere = subst (AllByRecursion ShowsNone) (sym all) so_far.none; none = refl; same = so_far.same; arena = rw all now.beyond })

    -- a row of the class, whose outlet was copied
    pub found : r ≡ Ok fetch.Row → read_as (integer (2 ^ 31)) 0 (row_due means s' 0) ≡ Ok class
        → (answer : Result ℕ Fault) (result : Result (Option ℕ) Fault) (into'' : List ℕ) → result ≡ some_if answer → Copied (read_as as_text 1 (row_due means s' 1)) answer into' into''
        → OutletIn pairs a₀ a' class m.coming into result into''
    found is of_class answer result into'' answers copy =
        let shown = w.row is in
        inl (record {
          before = so_far.before;
          is = shown.is;
          after = (means s'.host).coming;
          there = so_far.there ∙ ap (λ (ys : List Event). so_far.before ++ ys) shown.next;
          shown = (ap is_row shown.answer, sym (class_is shown) ∙ of_class);
          first = so_far.none;
          answer = answer;
          answers = answers;
          outlet = subst (λ (x : List ℕ). Copied (outlet_of pairs shown.is) answer x into'') so_far.same (subst (λ (x : Result (List ℕ) Fault). Copied x answer into' into'') (ap (read_as as_text 1) (read_is shown 1)) copy);
          arena = (one_more _ _ _ _ _ _ so_far.before s s' a a' so_far.reached r w (row shown.is) shown.capacities).beyond;
        })

-- what is left of an arena that changed at the opening too
pub from_opening : (pairs : List Column) (class : ℤ) (coming : List Event) (a a₁ a₂ into : List ℕ) (result : Result (Option ℕ) Fault) (into' : List ℕ) → length a₁ ≡ length a
    → ((gone : List Event) → LeavesArena (Ok pairs) gone a₁ a₂ → LeavesArena (Ok pairs) gone a a₂) → OutletIn pairs a₁ a₂ class coming into result into' → OutletIn pairs a a₂ class coming into result into'
from_opening pairs class coming a a₁ a₂ into result into' long past (inl x) = inl (record {
  before = x.before;
  is = x.is;
  after = x.after;
  there = x.there;
  shown = subst (λ (n : ℕ). ShowsClass pairs n class (row x.is)) long x.shown;
  first = subst (λ (n : ℕ). AllByRecursion (λ e. ShowsClass pairs n class e → ⊥) x.before) long x.first;
  answer = x.answer;
  answers = x.answers;
  outlet = x.outlet;
  arena = past (x.before ++ row x.is ∷ []) x.arena;
})
from_opening pairs class coming a a₁ a₂ into result into' long past (inr x) = inr (record {
  nowhere = subst (λ (n : ℕ). AllByRecursion (λ e. ShowsClass pairs n class e → ⊥) coming) long x.nowhere;
  none = x.none;
  same = x.same;
  arena = past coming x.arena;
})
