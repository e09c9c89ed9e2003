-- How far the places of a session have reached.
use Rattle.std.proofs.Common.{◌≡◌, ℕ, ◌≤◌, Bool, false, List, [], ◌∷◌, ◌++◌, length, Ok, Err, Option, Result, sym, refl, ap, ◌∙◌, subst, arith}
use Rattle.std.specs.List.{sum}
use Rattle.std.proofs.lemmas.List.Sums.{fold-append}
use Rattle.std.proofs.lemmas.List.{append_assoc}
use Rattle.mysql.specs.declared.backend.MysqlType.{MysqlType}
use Rattle.mysql.specs.declared.bind.Column.{Column}
use Rattle.mysql.specs.declared.fault.Fault.{Fault}
use Rattle.host.specs.Meanings.{Event, row, Meaning}
use Rattle.layout.specs.Tables.{end}
use Rattle.layout.specs.Moves.{Beyond}
use Rattle.rows.specs.declared.answers.Fetch.{Fetch}
use Rattle.rows.specs.declared.answers.Fetch.TheVariants as fetch
use Rattle.rows.specs.Dues.{opening}
use Rattle.rows.specs.Standing.{pairs_of}
use Rattle.rows.specs.Reach.{capacities_of, first_capacities, capacities_after, reach_from, reach}
use Rattle.rows.proofs.Reaching.{end_is, opening_capacities, after_all, end_reached, reach_more, last_reached}
use Rattle.session.specs.declared.answers.Slip.{Slip}
use Rattle.session.specs.declared.state.Session.{Session}
use Rattle.session.specs.Sessions.{table_of, is_open, AfterOpening, Opens}
use Rattle.going.specs.Going.{Leaves}
use Rattle.going.specs.Arenas.{LeavesArena, LeavesPast}
use Rattle.going.proofs.Opened.{due_of_opening}

-- past the further of two ends
pub beyond_both : (n k : ℕ) (a b c : List ℕ) → n ≤ k → Beyond n a b → Beyond k b c → Beyond k a c
beyond_both n k a b c l h j p q = j p q ∙ h p (omega (arith, l, q))

module _ {H : Type 0} (means : H → Meaning) (m : Meaning) (pairs : List Column) (n : ℕ) (first : List ℕ) (a₀ : List ℕ) where
  -- After these events the columns have the capacities that they leave, and past the furthest end so far the arena is as it was.
  pub record Reached (gone : List Event) (s : Session H) (a : List ℕ) : Type 0 where
    pub capacities : capacities_of (table_of s) ≡ after_all pairs n first gone
    pub beyond : Beyond (reach_from pairs n first gone) a₀ a

  module _ (gone : List Event) (s s' : Session H) (a a' : List ℕ) (so_far : Reached gone s a) (r : Result Fetch Fault) (w : Leaves means m pairs n r s s' a a') where
    ends : end (table_of s) ≤ reach_from pairs n first gone
    ends = omega (arith, end_is (table_of s), ap sum so_far.capacities, last_reached pairs n first gone)

    -- an event more
    pub one_more : (e : Event) → capacities_of (table_of s') ≡ capacities_after pairs n (capacities_of (table_of s)) e → Reached (gone ++ e ∷ []) s' a'
    one_more e after =
        let capacities : capacities_of (table_of s') ≡ after_all pairs n first (gone ++ e ∷ []) =
        after ∙ ap (λ (ns : List ℕ). capacities_after pairs n ns e) so_far.capacities ∙ sym (fold-append (capacities_after pairs n) first gone (e ∷ [])) in
        let more = reach_more pairs n first gone (e ∷ []) in
        let now : end (table_of s') ≤ reach_from pairs n first (gone ++ e ∷ []) = omega (arith, end_is (table_of s'), ap sum capacities, last_reached pairs n first (gone ++ e ∷ [])) in
        record { capacities = capacities; beyond = λ p l. w.outside p (omega (arith, ends)) (omega (arith, now)) ∙ so_far.beyond p (omega arith) }

    -- the end
    pub no_more : capacities_of (table_of s') ≡ capacities_of (table_of s) → Reached gone s' a'
    no_more same =
        let now : end (table_of s') ≤ reach_from pairs n first gone = omega (arith, end_is (table_of s'), ap sum same, end_is (table_of s), ends) in
        record { capacities = same ∙ so_far.capacities; beyond = λ p l. w.outside p (omega (arith, ends)) (omega (arith, now)) ∙ so_far.beyond p l }

  -- It has come so far through the events that m had to come.
  pub record Travelled (s : Session H) (a : List ℕ) : Type 0 where
    pub gone : List Event
    pub there : m.coming ≡ gone ++ (means s.host).coming
    pub reached : Reached gone s a

  pub at_start : (s : Session H) → m.coming ≡ (means s.host).coming → capacities_of (table_of s) ≡ first → Travelled s a₀
  at_start s there capacities = record { gone = []; there = there; reached = record { capacities = capacities; beyond = λ p l. refl } }

  pub untouched : (s : Session H) (a : List ℕ) → Travelled s a → Beyond (reach_from pairs n first m.coming) a₀ a
  untouched s a t p l = t.reached.beyond p (omega (arith, l, ap (reach_from pairs n first) t.there, reach_more pairs n first t.gone (means s.host).coming))

  module _ (s s' : Session H) (a a' : List ℕ) (t : Travelled s a) where
    further : (e : Event) → (means s.host).coming ≡ e ∷ (means s'.host).coming → Reached (t.gone ++ e ∷ []) s' a' → Travelled s' a'
    further e next reached = record {
      gone = t.gone ++ e ∷ [];
      there = t.there ∙ ap (λ (ys : List Event). t.gone ++ ys) next ∙ sym (append_assoc t.gone (e ∷ []) (means s'.host).coming);
      reached = reached;
    }

    -- a fetch more
    pub on : (r : Result Fetch Fault) → Leaves means m pairs n r s s' a a' → Travelled s' a'
    on (Ok fetch.Row) w = let shown = w.row refl in further (row shown.is) shown.next (one_more t.gone s s' a a' t.reached _ w (row shown.is) shown.capacities)
    on (Ok fetch.End) w =
        let last = w.end refl in
        record { gone = t.gone; there = t.there ∙ ap (λ (ys : List Event). t.gone ++ ys) (last.none ∙ sym last.still); reached = no_more t.gone s s' a a' t.reached _ w last.capacities }
    on (Err f) w = let refused = w.refused f refl in further refused.is refused.next (one_more t.gone s s' a a' t.reached _ w refused.is refused.capacities)

-- What was left untouched since a granted opening, and by it.
module _ {H : Type 0} (means : H → Meaning) (s s' : Session H) (a a₁ a₂ : List ℕ) (long : length a₁ ≡ length a) where
  by_answer : (gone : List Event) (due : Result (List Column) Fault) (slip : Slip) → AfterOpening (Ok slip) due (means s.host) (means s'.host) s s' a a₁ → LeavesPast s' gone a₁ a₂ → LeavesArena (Ok (pairs_of (table_of s'))) gone a a₂
  by_answer gone (Ok pairs) slip w h =
      let first : capacities_of (table_of s') ≡ first_capacities pairs = opening_capacities pairs (length a) (table_of s') w.table in
      let since : Beyond (reach pairs (length a) gone) a₁ a₂ = rw (w.bound_with, long, first) at h in
      rw w.bound_with (beyond_both (end (table_of s')) (reach pairs (length a) gone) a a₁ a₂ (omega (arith, end_is (table_of s'), ap sum first, end_reached pairs (length a) (first_capacities pairs) gone)) w.others since)
  by_answer gone (Err f) slip w h = absurd w

  module _ (slip : Slip) (wanted : List (Option MysqlType)) (w : Opens means (Ok slip) wanted s s' a a₁) where
    pub past_opening : (gone : List Event) → LeavesPast s' gone a₁ a₂ → LeavesArena (Ok (pairs_of (table_of s'))) gone a a₂
    past_opening gone h = let m = means s.host in by_answer gone (opening (is_open s) (length a) m.carries wanted m.columns) slip w h

    fresh_by : (due : Result (List Column) Fault) → AfterOpening (Ok slip) due (means s.host) (means s'.host) s s' a a₁ → capacities_of (table_of s') ≡ first_capacities (pairs_of (table_of s'))
    fresh_by (Ok pairs) o = opening_capacities pairs (length a) (table_of s') o.table ∙ sym (ap first_capacities o.bound_with)
    fresh_by (Err f) o = absurd o

    pub fresh : capacities_of (table_of s') ≡ first_capacities (pairs_of (table_of s'))
    fresh = let m = means s.host in fresh_by (opening (is_open s) (length a) m.carries wanted m.columns) w

    pub before_opening : (gone : List Event) → LeavesArena (Ok (pairs_of (table_of s'))) gone a₁ a₂ → LeavesArena (Ok (pairs_of (table_of s'))) gone a a₂
    before_opening gone h = past_opening gone (rw fresh h)

    -- where all events that were to come are fetched
    pub since_opening : (host : H) → s.host ≡ host → is_open s ≡ false → LeavesPast s' (means s'.host).coming a₁ a₂ → LeavesArena (opening false (length a) (means host).carries wanted (means host).columns) (means host).coming a a₂
    since_opening host same closed h =
        due_of_opening means s s' a a₁ long (λ due n coming. LeavesArena due coming a a₂) host slip wanted same closed w (past_opening (means s'.host).coming h)
