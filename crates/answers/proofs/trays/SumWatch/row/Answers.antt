use Rattle.std.proofs.Common.{refl}
use Rattle.walk.specs.Walks.{a_row}
use Rattle.answers.specs.Trays.{trouble_in}
use Rattle.answers.proofs.Summed.{quiet, same_words}
use Rattle.answers.proofs.trays.SumWatch.row.Goals as goal

pub returns : goal.returns
returns c = λ said h. quiet c.args.self.now c.args.self.now.text said a_row refl refl (same_words c.args.self.now.text (trouble_in said) h.trouble) h
