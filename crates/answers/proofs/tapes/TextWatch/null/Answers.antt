use Rattle.std.proofs.Common.{Ok, None}
use Rattle.walk.specs.Walks.{a_column}
use Rattle.answers.proofs.Snocs.{told}
use Rattle.answers.proofs.tapes.TextWatch.null.Goals as goal

pub returns : goal.returns
returns c = told _ c.part.new.self (a_column (Ok None)) c.part.ensures
