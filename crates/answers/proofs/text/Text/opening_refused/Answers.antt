use Rattle.std.proofs.Common.{rules}
use Rattle.answers.proofs.Puts.{then}
use Rattle.answers.proofs.text.Text.opening_refused.Goals as goal

pub returns-in-Some : goal.returns-in-Some
returns-in-Some c = let p = then _ _ _ _ _ c.part.ensures (then _ _ _ _ _ c.digits.ensures c.failure.ensures) in search rules

pub returns-in_default : goal.returns-in_default
returns-in_default c = let p = then _ _ _ _ _ c.part.ensures c.digits.ensures in search rules
