use Rattle.std.proofs.Common.{Err, refl}
use Rattle.answers.specs.Trays.{trouble_in}
use Rattle.walk.specs.Walks.{a_column}
use Rattle.answers.proofs.Summed.{quiet}
use Rattle.answers.proofs.trays.SumWatch.unread.Goals as goal

pub returns : goal.returns
returns c = λ said h. quiet c.args.self.now c.reading_refused.new.self said (a_column (Err c.args.fault)) refl refl (c.reading_refused.ensures.puts (trouble_in said) h.trouble) h
