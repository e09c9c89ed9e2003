use Rattle.std.proofs.Common.{refl}
use Rattle.answers.specs.Trays.{trouble_in}
use Rattle.walk.specs.Walks.{unopened}
use Rattle.answers.proofs.Summed.{quiet}
use Rattle.answers.proofs.trays.SumWatch.unopened.Goals as goal

pub returns : goal.returns
returns c = λ said h. quiet c.args.self.now c.opening_refused.new.self said (unopened c.args.fault) refl refl (c.opening_refused.ensures.puts (trouble_in said) h.trouble) h
