use Rattle.std.proofs.Common.{rules}
use Rattle.answers.proofs.Puts.{then}
use Rattle.answers.proofs.text.Text.typed_bytes.Goals as goal

pub returns : goal.returns
returns c = let p = then _ _ _ _ _ c.number-2.ensures (then _ _ _ _ _ c.part.ensures c.hexadecimal.ensures) in search rules
