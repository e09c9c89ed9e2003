use Rattle.std.proofs.Common.{◌≡◌}
use Rattle.checksum.specs.Crc.{shifted, times}
use Rattle.checksum.proofs.with_byte.Given as goal

abbrev pub invariant-loop : goal.invariant-loop
invariant-loop l = l.after ≡ times l.counter shifted l.initial.after
