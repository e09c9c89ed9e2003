use Rattle.std.proofs.Common.{rules}
use Rattle.answers.proofs.Puts.{then}
use Rattle.answers.proofs.text.Text.fetch_refused.Goals as goal

pub returns-in-Some : goal.returns-in-Some
returns-in-Some c = let p = then _ _ _ _ _ c.part.ensures c.failure.ensures in search rules

pub returns-in-None : goal.returns-in-None
returns-in-None c = let p = then _ _ _ _ _ c.part-in-None.ensures c.digits.ensures in search rules
