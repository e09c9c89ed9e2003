-- What becomes of a table once its reports are noted, whatever host there is.
use Rattle.std.proofs.Common.{◌≡◌, ℕ, ◌<◌, ◌≤◌, List, Ok, Err, Result, refl, ap, ◌∙◌, ⊎_elim, sym, arith}
use Rattle.std.proofs.lemmas.Bool.{cases_lt}
use Rattle.mysql.specs.declared.fault.Fault.{Fault}
use Rattle.mysql.specs.declared.fault.Refusal.TheVariants.{NumericOverflow}
use Rattle.mysql.specs.Faults.{refused, at_column}
use Rattle.host.specs.declared.records.Report.{Report}
use Rattle.host.specs.Meanings.{Meaning}
use Rattle.layout.specs.declared.table.ColumnTable.{ColumnTable}
use Rattle.layout.specs.Tables.{Noted, SamePlaces, AllFit, NoneLost, LowestLost}
use Rattle.rows.specs.Settling.{RoomTried, Handled}

lowest_same : (t : ColumnTable) (i k : ℕ) → LowestLost t i → LowestLost t k → i ≡ k
lowest_same t i k x y = ⊎_elim
    (λ (l : i < k). absurd (y.lowest i l x.lost))
    (λ (l : k ≤ i). ⊎_elim (λ (h : k < i). absurd (x.lowest k h y.lost)) (λ (h : i ≤ k). omega arith) (cases_lt k i))
    (cases_lt i k)

module _ (m : Meaning) (t : ColumnTable) (rs : List Report) (a : List ℕ) (u : ColumnTable) (written : Noted t rs u) (places : SamePlaces t u) where
  pub handled_fit : NoneLost u → AllFit u → Handled m t rs a (Ok tt) m u a
  handled_fit none fit = record {
    told = u;
    noted = written;
    places = places;
    lost = λ i h. absurd (none i h.within h.lost);
    fits = λ _ _. (refl, record { host = refl; table = refl; same_arena = refl });
    over = λ _ over. absurd (over fit);
  }

  pub handled_lost : (k : ℕ) (f : Fault) → LowestLost u k → f ≡ at_column (refused NumericOverflow) k → Handled m t rs a (Err f) m u a
  handled_lost k f h e = record {
    told = u;
    noted = written;
    places = places;
    lost = λ i g. (ap Err (e ∙ ap (at_column (refused NumericOverflow)) (lowest_same u k i h g)), record { host = refl; table = refl; same_arena = refl });
    fits = λ none _. absurd (none k h.within h.lost);
    over = λ none _. absurd (none k h.within h.lost);
  }

  pub handled_over : NoneLost u → (AllFit u → ⊥) → (result : Result Unit Fault) (m' : Meaning) (t' : ColumnTable) (a' : List ℕ) → RoomTried m u a result m' t' a' → Handled m t rs a result m' t' a'
  handled_over none over result m' t' a' tried = record {
    told = u;
    noted = written;
    places = places;
    lost = λ i h. absurd (none i h.within h.lost);
    fits = λ _ fit. absurd (over fit);
    over = λ _ _. tried;
  }
