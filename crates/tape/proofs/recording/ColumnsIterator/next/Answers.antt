use Rattle.std.proofs.Common.{refl}
use Rattle.tape.proofs.Columned.{column_some, column_end}
use Rattle.tape.proofs.recording.ColumnsIterator.next.Goals as goal

pub returns-in_err-column-clause-steps : goal.returns-in_err-column-clause-steps
returns-in_err-column-clause-steps c =
    let none = c.in_err-column.ensures in
    rw c.from_residual.ensures (record { gives = λ cs h. column_end c.args.self.now.bytes.now cs h none; steps = (none, refl) })

pub returns-clause-steps : goal.returns-clause-steps
returns-clause-steps c =
    let begins = c.in_ok-column.ensures in
    record { gives = λ cs h. column_some c.args.self.now.bytes.now cs c.in_ok-column.column c.in_ok-column.rest.now h begins; steps = begins }
