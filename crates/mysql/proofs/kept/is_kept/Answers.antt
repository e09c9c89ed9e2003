use Rattle.std.proofs.Common.{arith}
use Rattle.mysql.proofs.Table.{low, high}
use Rattle.mysql.proofs.kept.is_kept.Goals as goal

pub returns-in-0-to-19 : goal.returns-in-0-to-19
returns-in-0-to-19 c = rw c.row.ensures (low c.args.tpe c.args.code (omega arith))

pub returns-in-245-to-255 : goal.returns-in-245-to-255
returns-in-245-to-255 c = rw c.row-in-245-to-255.ensures (high c.args.tpe c.args.code (omega arith) (omega arith))
