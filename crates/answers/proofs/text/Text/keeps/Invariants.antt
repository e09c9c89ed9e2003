use Rattle.std.proofs.Common.{◌++◌, codes}
use Rattle.hex.specs.Hex.{encode_lower}
use Rattle.answers.specs.Singles.{kept_bytes}
use Rattle.answers.specs.Texts.{Puts}
use Rattle.answers.proofs.text.Text.keeps.Given as goal

-- the codes so far
abbrev pub invariant-loop-i : goal.invariant-loop-i
invariant-loop-i l = Puts l.fn.self l.self (codes " " ++ encode_lower (kept_bytes l.tpe l.i))
