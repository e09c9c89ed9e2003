use Rattle.std.proofs.Common.{take, ap, ◌∙◌}
use Rattle.std.proofs.lemmas.List.{take_rest}
use Rattle.readings.specs.Bytes.{le}
use Rattle.readings.proofs.date_and_time.number_at.Goals as goal

pub returns : goal.returns
returns g c =
    c.from_ne_prefix.ensures
    ∙ ap (λ u. g.T.FromNeBytes.value (le (take g.T.FromNeBytes.width u))) (take_rest c.args.raw.now c.args.at)
