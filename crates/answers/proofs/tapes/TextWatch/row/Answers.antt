use Rattle.walk.specs.Walks.{a_row}
use Rattle.answers.proofs.Snocs.{told}
use Rattle.answers.proofs.tapes.TextWatch.row.Goals as goal

pub returns : goal.returns
returns c = told _ c.part.new.self a_row c.part.ensures
