use Rattle.readings.proofs.Records.{back}
use Rattle.readings.proofs.laws.times_read_back.Goals as goal

pub returns : goal.returns
returns c = back
