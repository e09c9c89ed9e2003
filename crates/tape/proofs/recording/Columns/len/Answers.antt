use Rattle.std.proofs.Common.{arith}
use Rattle.tape.proofs.Columned.{columns_count}
use Rattle.tape.proofs.recording.Columns.len.Goals as goal

pub returns-clause-counted : goal.returns-clause-counted
returns-clause-counted c = λ cs h. omega (arith, columns_count c.args.self.now.bytes.now cs h)
