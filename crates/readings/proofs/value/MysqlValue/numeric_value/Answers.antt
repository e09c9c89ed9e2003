use Rattle.std.proofs.Common.{rules}
use Rattle.readings.proofs.Numbers.{held_single, held_double}
use Rattle.readings.proofs.value.MysqlValue.numeric_value.Goals as goal

pub returns : goal.returns
returns c =
    let single = held_single c.args.self.now.raw in
    let double = held_double c.args.self.now.raw in
    search rules
