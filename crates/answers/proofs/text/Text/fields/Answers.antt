use Rattle.answers.proofs.Puts.{then}
use Rattle.answers.proofs.text.Text.fields.Goals as goal

pub returns : goal.returns
returns c = then _ _ _ _ _ c.date.ensures (then _ _ _ _ _ c.clock.ensures c.further.ensures)
