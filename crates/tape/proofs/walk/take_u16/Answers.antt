use Rattle.std.proofs.Common.{rules}
use Rattle.tape.proofs.Numbers.{two_front}
use Rattle.tape.proofs.walk.take_u16.Goals as goal

pub returns : goal.returns
returns c = two_front c.args.bytes.now c.from_le_bytes.result c.in_ok-number.number.now c.in_ok-number.rest.now (λ i. (c.type_inv.bytes i).fits) (search rules) (search rules) (search rules) c.from_le_bytes.ensures
