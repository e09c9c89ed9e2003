use Rattle.std.proofs.Common.{refl, ap, add-one, ◌∙◌}
use Rattle.checksum.specs.Crc.{shifted, times}
use Rattle.checksum.proofs.with_byte.Goals as goal

pub loop-init : goal.loop-init
unfolding times
loop-init c = refl

pub loop-preserved : goal.loop-preserved
unfolding times
loop-preserved c = rw add-one (c.shifted-after.ensures ∙ ap shifted c.loop.invariant)
