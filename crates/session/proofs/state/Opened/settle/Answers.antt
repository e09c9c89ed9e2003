use Rattle.std.proofs.Common.{refl}
use Rattle.session.proofs.state.Opened.settle.Goals as goal

pub returns : goal.returns
returns g c = λ row got. (refl, record { shown = refl; settled = c.in_ok-populate_dynamic_buffers.ensures.came row got })
