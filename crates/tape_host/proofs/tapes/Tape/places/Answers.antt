use Rattle.std.proofs.Common.{◌≡◌, length, take, ◌∙◌, rules}
use Rattle.tape_host.proofs.Meant.{width_is}
use Rattle.tape_host.proofs.tapes.Tape.places.Goals as goal

pub returns-then-self-clause-counted : goal.returns-then-self-clause-counted
returns-then-self-clause-counted c = λ b.
    let t = c.args.self.now in
    let long : length (take t.width t.records) ≡ t.width = search rules in
    long ∙ width_is t
