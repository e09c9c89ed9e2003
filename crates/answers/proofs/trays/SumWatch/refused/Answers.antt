use Rattle.std.proofs.Common.{refl}
use Rattle.answers.specs.Trays.{trouble_in}
use Rattle.walk.specs.Walks.{refused}
use Rattle.answers.proofs.Summed.{quiet}
use Rattle.answers.proofs.trays.SumWatch.refused.Goals as goal

pub returns : goal.returns
returns c = λ said h. quiet c.args.self.now c.fetch_refused.new.self said (refused c.args.fault) refl refl (c.fetch_refused.ensures.puts (trouble_in said) h.trouble) h
