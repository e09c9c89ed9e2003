use Rattle.std.proofs.Common.{refl}
use Rattle.mysql.proofs.Sizes.{size_is}
use Rattle.mysql.proofs.bind.known_buffer_size_for_ffi_type.Goals as goal

pub returns-else-size-eq0 : goal.returns-else-size-eq0
returns-else-size-eq0 c = size_is c.args.code _ c.ranges.code.fits refl c.if-size-eq0.false
