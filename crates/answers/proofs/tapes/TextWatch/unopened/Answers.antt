use Rattle.walk.specs.Walks.{unopened}
use Rattle.answers.proofs.Snocs.{told}
use Rattle.answers.proofs.tapes.TextWatch.unopened.Goals as goal

pub returns : goal.returns
returns c = told _ c.opening_refused.new.self (unopened c.args.fault) c.opening_refused.ensures
