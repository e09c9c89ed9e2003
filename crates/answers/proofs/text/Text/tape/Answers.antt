use Rattle.std.proofs.Common.{[], Ok, refl, length}
use Rattle.answers.specs.Answers.{tape_words}
use Rattle.answers.proofs.text.Text.tape.Goals as goal

pub returns-in-Ok : goal.returns-in-Ok
returns-in-Ok c = (tape_words (Ok c.in-Ok.tape) c.args.wanted.now (length c.args.arena.now), (Ok c.in-Ok.tape, c.in-Ok.ensures, refl), c.walk.ensures.said [] c.requires)
