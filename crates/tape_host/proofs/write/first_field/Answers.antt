use Rattle.tape_host.proofs.Taking.{first_taken}
use Rattle.tape_host.proofs.write.first_field.Goals as goal

pub returns : goal.returns
returns c = first_taken c.args.code c.args.bytes.now c.take_field.result _ c.unwrap_or.result c.unwrap_or.ensures c.take_field.ensures
