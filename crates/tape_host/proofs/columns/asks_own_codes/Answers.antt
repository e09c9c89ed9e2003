use Rattle.std.proofs.Common.{◌∙◌, rules, tests}
use Rattle.std.proofs.lemmas.Iterator.{YieldsList-from_slice, YieldsList-from_zip}
use Rattle.std.proofs.lemmas.Iterator.Consumers.{YieldsList-at}
use Rattle.std.proofs.lemmas.Iterator.Search.{all_from_yields_List}
use Rattle.tape.proofs.Yielded.{columns_yielded}
use Rattle.tape_host.proofs.Columned.{own_pair, codes_all}
use Rattle.tape_host.proofs.columns.asks_own_codes.Goals as goal

pub returns : goal.returns
returns c = λ cs h n.
    let columns = columns_yielded c.args.columns cs h in
    let pairs = YieldsList-from_zip {s = c.zip.result} (YieldsList-at c.zip.ensures.first columns) (YieldsList-from_slice c.args.records.now cc) in
    all_from_yields_List own_pair c.all.new.self _ c.all.result c.all.ensures.ran pairs (λ x b q k. search (rules, tests))
    ∙ codes_all cs c.args.records.now n
