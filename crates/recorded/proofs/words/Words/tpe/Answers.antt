use Rattle.std.proofs.Common.{refl}
use Rattle.recorded.specs.Grammar.{a_type, of_type}
use Rattle.recorded.proofs.Fields.{reads_next}
use Rattle.recorded.proofs.words.Words.tpe.Goals as goal

pub returns : goal.returns
returns c = λ room. reads_next a_type of_type room _ c.in_ok-word.field-0.now _ c.type_in.result (λ t. refl) c.in_ok-word.ensures (c.type_in.ensures room)
