use Rattle.std.proofs.Common.{rules}
use Rattle.answers.proofs.Puts.{then}
use Rattle.answers.proofs.text.Text.failure.Goals as goal

pub returns : goal.returns
returns c = let p = then _ _ _ _ _ c.part.ensures (then _ _ _ _ _ c.digits.ensures (then _ _ _ _ _ c.part-2.ensures c.digits-2.ensures)) in search rules
