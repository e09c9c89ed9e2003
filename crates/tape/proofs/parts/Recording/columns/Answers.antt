use Rattle.std.proofs.Common.{arith}
use Rattle.tape.specs.Recordings.{contents}
use Rattle.tape.proofs.Columned.{columns_count}
use Rattle.tape.proofs.parts.Recording.columns.Goals as goal

pub returns-clause-few : goal.returns-clause-few
returns-clause-few c =
    let r = c.args.self.now in
    omega (arith, columns_count r.columns.now (contents r).columns r.held.1.columns_in)
