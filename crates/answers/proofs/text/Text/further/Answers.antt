use Rattle.std.proofs.Common.{rules}
use Rattle.answers.proofs.Puts.{then}
use Rattle.answers.proofs.text.Text.further.Goals as goal

pub returns : goal.returns
returns c = let p = then _ _ _ _ _ c.number.ensures (then _ _ _ _ _ c.number-2.ensures c.number-3.ensures) in search rules
