use Rattle.numeric.proofs.Backs.{printed}
use Rattle.numeric.proofs.laws.printed_integers_read_back.Goals as goal

pub returns : goal.returns
returns c = printed
