-- A count of what a session shows.
use Rattle.std.proofs.Common.{◌≡◌, ℕ, ◌+◌, ◌^◌, ◌<◌, Bool, true, false, cond, is_some, is_none, List, [], ◌∷◌, Some, None, Option, Ok, Err, Result, sym, refl, ap, ◌∙◌, arith}
use Rattle.std.proofs.lemmas.List.Sums.{sum_by-cons}
use Rattle.std.specs.List.{count_by}
use Rattle.mysql.specs.declared.bind.Column.{Column}
use Rattle.mysql.specs.declared.fault.Fault.{Fault}
use Rattle.mysql.specs.declared.fault.HostError.{HostError}
use Rattle.mysql.specs.Faults.{host_error_of}
use Rattle.host.specs.Meanings.{Event, row, failure, Meaning}
use Rattle.rows.specs.declared.answers.Fetch.{Fetch}
use Rattle.rows.specs.declared.answers.Fetch.TheVariants as fetch
use Rattle.rows.specs.Dues.{fetched}
use Rattle.session.specs.declared.state.Session.{Session}
use Rattle.going.specs.Going.{FaultOf, Going, Leaves}
use Rattle.outlets.specs.declared.count.RowCounts.{RowCounts}
use Rattle.outlets.specs.Events.{is_row, is_fault, capped, shows, refuses, fails, counts_of}

-- one count and what is still to be counted are together what is to be counted
pub record Goes (p : Event → Bool) (coming : List Event) (k : ℕ) (rest : List Event) : Type 0 where
  pub small : k < 2 ^ 64
  pub all : capped (k + count_by p rest) ≡ capped (count_by p coming)

module _ (p : Event → Bool) (coming : List Event) (k : ℕ) (es rest : List Event) (e : Event) (next : es ≡ e ∷ rest) (going : Goes p coming k es) where
  -- the next event counts for one, or for none
  counts_for : (b : Bool) → p e ≡ b → count_by p es ≡ cond b 1 0 + count_by p rest
  counts_for b h = ap (count_by p) next ∙ sum_by-cons (λ x. cond (p x) 1 0) e rest ∙ ap (λ (y : Bool). cond y 1 0 + count_by p rest) h

  one_more : (k' : ℕ) → k' ≡ capped (k + 1) → p e ≡ true → Goes p coming k' rest
  one_more k' is h = let c = counts_for true h in let a = going.all in let s = going.small in record { small = omega arith; all = omega arith }

  no_more : p e ≡ false → Goes p coming k rest
  no_more h = let c = counts_for false h in let a = going.all in record { small = going.small; all = omega arith }

all_counted : (p : Event → Bool) (coming : List Event) (k : ℕ) (es : List Event) → es ≡ [] → Goes p coming k es → k ≡ capped (count_by p coming)
all_counted p coming k es none going =
    let c : count_by p es ≡ 0 = ap (count_by p) none in
    let b = going.small in let h = going.all in omega arith

module _ {H : Type 0} (means : H → Meaning) (m : Meaning) (pairs : List Column) (n : ℕ) where
  pub record Counting (counts : RowCounts) (s : Session H) (a : List ℕ) : Type 0 where
    pub going : Going means m pairs n s a
    pub shown : Goes (shows pairs n) m.coming counts.shown (means s.host).coming
    pub refused : Goes (refuses pairs n) m.coming counts.refused (means s.host).coming
    pub failures : Goes fails m.coming counts.failures (means s.host).coming

  -- an event that is refused: a failure where there is a host's error, else a row
  kind_of : (e : Event) (f : Fault) → fetched pairs n (e ∷ []) ≡ Err f → FaultOf e f → (o : Option HostError) → host_error_of f ≡ o
      → (shows pairs n e ≡ false) × (refuses pairs n e ≡ is_none o) × (fails e ≡ is_some o)
  kind_of (row x) f answer fault None h = (ap is_row answer, ap is_fault answer, refl)
  kind_of (row x) f answer fault (Some k) h = absurd (let i : None ≡ Some k = sym fault ∙ h in cc)
  kind_of (failure i) f answer fault None h = absurd (let j = sym h ∙ ap host_error_of fault in cc)
  kind_of (failure i) f answer fault (Some k) h = (refl, refl, refl)

  module _ (counts : RowCounts) (s s' : Session H) (a a' : List ℕ) (so_far : Counting counts s a) (r : Result Fetch Fault) (w : Leaves means m pairs n r s s' a a') where
    abbrev coming : List Event
    coming = (means s.host).coming

    abbrev rest : List Event
    rest = (means s'.host).coming

    pub row_counted : r ≡ Ok fetch.Row → (k : ℕ) → k ≡ capped (counts.shown + 1) → Counting (record { shown = k; refused = counts.refused; failures = counts.failures }) s' a'
    row_counted is k more =
        let row = w.row is in
        record {
          going = w.going;
          shown = one_more (shows pairs n) m.coming _ coming rest _ row.next so_far.shown k more (ap is_row row.answer);
          refused = no_more (refuses pairs n) m.coming _ coming rest _ row.next so_far.refused (ap is_fault row.answer);
          failures = no_more fails m.coming _ coming rest _ row.next so_far.failures refl;
        }

    pub failure_counted : (f : Fault) → r ≡ Err f → (x : HostError) → host_error_of f ≡ Some x → (k : ℕ) → k ≡ capped (counts.failures + 1) → Counting (record { shown = counts.shown; refused = counts.refused; failures = k }) s' a'
    failure_counted f is x error k more =
        let refused = w.refused f is in
        let kind = kind_of refused.is f refused.answer refused.fault (Some x) error in
        record {
          going = w.going;
          shown = no_more (shows pairs n) m.coming _ coming rest _ refused.next so_far.shown kind.0;
          refused = no_more (refuses pairs n) m.coming _ coming rest _ refused.next so_far.refused kind.1;
          failures = one_more fails m.coming _ coming rest _ refused.next so_far.failures k more kind.2;
        }

    pub refusal_counted : (f : Fault) → r ≡ Err f → host_error_of f ≡ None → (k : ℕ) → k ≡ capped (counts.refused + 1) → Counting (record { shown = counts.shown; refused = k; failures = counts.failures }) s' a'
    refusal_counted f is error k more =
        let refused = w.refused f is in
        let kind = kind_of refused.is f refused.answer refused.fault None error in
        record {
          going = w.going;
          shown = no_more (shows pairs n) m.coming _ coming rest _ refused.next so_far.shown kind.0;
          refused = one_more (refuses pairs n) m.coming _ coming rest _ refused.next so_far.refused k more kind.1;
          failures = no_more fails m.coming _ coming rest _ refused.next so_far.failures kind.2;
        }

    pub counted_all : r ≡ Ok fetch.End → counts ≡ counts_of pairs n m.coming
    counted_all is =
        let none = (w.end is).none in
        λ i. record {
          shown = all_counted (shows pairs n) m.coming counts.shown coming none so_far.shown i;
          refused = all_counted (refuses pairs n) m.coming counts.refused coming none so_far.refused i;
          failures = all_counted fails m.coming counts.failures coming none so_far.failures i;
        }
