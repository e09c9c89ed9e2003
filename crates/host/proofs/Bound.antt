-- What a host means after a bind, by the bind's error number.
-- Assumes nothing.
use Rattle.std.proofs.Common.{◌≡◌, ℕ, List, sym, ap}
use Rattle.host.specs.declared.records.BindRecord.{BindRecord}
use Rattle.host.specs.Meanings.{Meaning}
use Rattle.host.specs.Calls.{bind_error, bound_list, after_bind}

pub bind_after : (m : Meaning) (bs : List BindRecord) (x : ℕ) → bind_error m bs ≡ x
    → ◌≡◌ {A = Meaning} (record { columns = m.columns; carries = m.carries; coming = m.coming; current = m.current; bound = bound_list x bs m.bound; error = x }) (after_bind m bs)
bind_after m bs x e =
    ap (λ n. record { columns = m.columns; carries = m.carries; coming = m.coming; current = m.current; bound = bound_list n bs m.bound; error = n }) (sym e)
