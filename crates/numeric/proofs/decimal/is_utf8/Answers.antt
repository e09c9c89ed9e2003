use Rattle.std.proofs.Common.{rules}
use Rattle.numeric.proofs.Characters.{in_grammar, not_in_grammar}
use Rattle.numeric.proofs.decimal.is_utf8.Goals as goal

pub returns : goal.returns
returns c = let yes = in_grammar c.args.bytes.now in let no = not_in_grammar c.args.bytes.now in search rules
