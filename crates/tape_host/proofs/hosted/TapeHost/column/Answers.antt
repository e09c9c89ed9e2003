use Rattle.std.proofs.Common.{ap, ◌∙◌}
use Rattle.std.proofs.lemmas.Option.{unwrap_or-slice_get}
use Rattle.std.specs.Option.{unwrap_or}
use Rattle.host.specs.Meanings.{no_column}
use Rattle.tape_host.specs.Formeds.{left_holds}
use Rattle.tape_host.specs.Tapes.{left_of, columns_of}
use Rattle.tape_host.proofs.hosted.TapeHost.column.Goals as goal

pub returns : goal.returns
returns c =
    let t = c.args.self.now in
    c.unwrap_or.ensures
    ∙ ap (λ o. unwrap_or o no_column) (c.get.ensures (columns_of t) (c.columns.ensures (left_of t) (left_holds t)))
    ∙ unwrap_or-slice_get (columns_of t) c.args.i no_column
