use Rattle.walk.specs.Walks.{the_end}
use Rattle.answers.proofs.Snocs.{told}
use Rattle.answers.proofs.tapes.TextWatch.end.Goals as goal

pub returns : goal.returns
returns c = told _ c.part.new.self the_end c.part.ensures
