use Rattle.tape_host.proofs.Meant.{width_is}
use Rattle.tape_host.proofs.hosted.TapeHost.column_count.Goals as goal

pub returns : goal.returns
returns c = width_is c.args.self.now
