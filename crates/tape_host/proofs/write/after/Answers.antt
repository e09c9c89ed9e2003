use Rattle.std.proofs.Common.{◌∙◌}
use Rattle.std.proofs.lemmas.List.{take_rest}
use Rattle.tape_host.proofs.Copied.{drop_min}
use Rattle.tape_host.proofs.write.after.Goals as goal

pub returns : goal.returns
returns c = take_rest c.args.bytes.now c.min.result ∙ drop_min c.args.bytes.now c.args.offset c.min.result c.min.ensures
