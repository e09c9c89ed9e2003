use Rattle.std.proofs.Common.{take}
use Rattle.hex.specs.Hex.{encode_lower}
use Rattle.answers.specs.Texts.{Puts}
use Rattle.answers.proofs.text.Text.hexadecimal.Given as goal

-- the bytes so far
abbrev pub invariant-loop-byte : goal.invariant-loop-byte
invariant-loop-byte l = Puts l.fn.self l.self (encode_lower (take l.byte-index l.bytes))
