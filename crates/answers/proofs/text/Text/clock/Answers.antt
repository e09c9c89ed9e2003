use Rattle.answers.proofs.Puts.{then}
use Rattle.answers.proofs.text.Text.clock.Goals as goal

pub returns : goal.returns
returns c = then _ _ _ _ _ c.number.ensures (then _ _ _ _ _ c.number-2.ensures c.number-3.ensures)
