use Rattle.std.proofs.Common.{Ok, Some}
use Rattle.walk.specs.Walks.{a_column}
use Rattle.answers.proofs.Snocs.{told}
use Rattle.answers.proofs.tapes.TextWatch.value.Goals as goal

pub returns : goal.returns
returns c = told _ c.typed_bytes.new.self (a_column (Ok (Some (record { tpe = c.args.value.tpe; bytes = c.args.value.raw.now })))) c.typed_bytes.ensures
