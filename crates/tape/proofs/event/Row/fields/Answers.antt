use Rattle.std.proofs.Common.{arith}
use Rattle.tape.proofs.Columned.{columns_count}
use Rattle.tape.proofs.Rowed.{as_many_fields}
use Rattle.tape.proofs.event.Row.fields.Goals as goal

pub returns-clause-few : goal.returns-clause-few
returns-clause-few c r h =
    omega (arith, as_many_fields r.columns r.fields h.row_of, columns_count c.args.self.now.columns.now r.columns h.columns_in)
