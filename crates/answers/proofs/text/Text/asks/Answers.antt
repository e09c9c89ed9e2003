use Rattle.std.proofs.Common.{rules}
use Rattle.answers.proofs.Puts.{then}
use Rattle.answers.proofs.text.Text.asks.Goals as goal

pub returns : goal.returns
returns c = let p = then _ _ _ _ _ c.number.ensures c.number-2.ensures in search rules
