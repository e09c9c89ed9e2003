use Rattle.walk.specs.Walks.{refused}
use Rattle.answers.proofs.Snocs.{told}
use Rattle.answers.proofs.tapes.TextWatch.refused.Goals as goal

pub returns : goal.returns
returns c = told _ c.fetch_refused.new.self (refused c.args.fault) c.fetch_refused.ensures
