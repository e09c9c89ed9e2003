use Rattle.std.proofs.Common.{[], None, refl}
use Rattle.tape_host.specs.Tapes.{left_of, columns_of}
use Rattle.tape_host.specs.Formeds.{left_holds}
use Rattle.tape_host.proofs.Meant.{means_is}
use Rattle.tape_host.proofs.hosted.TapeHost.free.Goals as goal

pub returns : goal.returns
returns c =
    let t = c.args.self.now in
    means_is _ (record { columns = columns_of t; events = [] }) None None 0 (c.stop.ensures (left_of t) (left_holds t)) refl refl refl
