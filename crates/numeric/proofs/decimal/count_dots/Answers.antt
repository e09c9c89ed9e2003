use Rattle.std.proofs.Common.{◌∙◌, sym, rules, tests, arith}
use Rattle.std.proofs.lemmas.Iterator.{YieldsList-from_slice, YieldsList-from_map}
use Rattle.std.proofs.lemmas.Iterator.Consumers.{YieldsList-at, sum_by_from_yields_List, fits_by_from_yields_list}
use Rattle.numeric.proofs.Scan.{dot_count, dots_are, dots_few}
use Rattle.numeric.proofs.decimal.count_dots.Goals as goal

pub sum-requires-clause-fits : goal.sum-requires-clause-fits
sum-requires-clause-fits c =
    let bs = c.args.bytes.now in
    let few = dots_few bs in
    let are = dots_are bs in
    fits_by_from_yields_list dot_count bs c.map.result _ (YieldsList-from_map _ dot_count (YieldsList-at c.map.ensures.source (YieldsList-from_slice bs cc)) c.map.ensures.closure (λ x r q k. search (rules, tests))) (omega arith)

pub returns : goal.returns
returns c =
    let bs = c.args.bytes.now in
    sum_by_from_yields_List dot_count bs c.map.result c.sum.result c.sum.ensures.ran (YieldsList-from_map _ dot_count (YieldsList-at c.map.ensures.source (YieldsList-from_slice bs cc)) c.map.ensures.closure (λ x r q k. search (rules, tests))) ∙ sym (dots_are bs)
