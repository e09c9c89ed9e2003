use Rattle.answers.proofs.Puts.{then}
use Rattle.answers.proofs.text.Text.number.Goals as goal

pub returns : goal.returns
returns g c = then _ _ _ _ _ c.part.ensures c.digits.ensures
