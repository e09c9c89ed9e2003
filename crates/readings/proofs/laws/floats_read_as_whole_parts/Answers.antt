use Rattle.readings.proofs.Backs.{parts}
use Rattle.readings.proofs.laws.floats_read_as_whole_parts.Goals as goal

pub returns : goal.returns
returns c = parts
