use Rattle.std.proofs.Common.{Err}
use Rattle.walk.specs.Walks.{a_column}
use Rattle.answers.proofs.Snocs.{told}
use Rattle.answers.proofs.tapes.TextWatch.unread.Goals as goal

pub returns : goal.returns
returns c = told _ c.reading_refused.new.self (a_column (Err c.args.fault)) c.reading_refused.ensures
