use Rattle.std.proofs.Common.{refl, arith}
use Rattle.host.specs.Calls.{number_of}
use Rattle.tape_host.specs.Tapes.{left_of, current_of, bound_of}
use Rattle.tape_host.specs.Formeds.{left_holds}
use Rattle.tape_host.proofs.Meant.{means_is}
use Rattle.tape_host.proofs.tapes.Tape.refuse.Goals as goal

pub returns-clause-after : goal.returns-clause-after
returns-clause-after c =
    let t = c.args.self.now in
    let small = c.number-self.type_inv in
    means_is _ (left_of t) (current_of t.current) (bound_of t) (number_of c.args.why) (left_holds t) refl refl (omega (arith, c.number-self.ensures))
