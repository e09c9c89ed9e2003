use Rattle.std.proofs.Common.{◌≡◌, ◌<◌, length, ap, sym, ◌∙◌, arith}
use Rattle.std.proofs.lemmas.List.{get_or-map, take_more, length-map}
use Rattle.host.specs.Meanings.{no_column}
use Rattle.host.specs.Calls.{no_bind}
use Rattle.tally.specs.Tallies.{own_record, own_records}
use Rattle.tally.proofs.records.own_records.Goals as goal

pub loop-i-preserved : goal.loop-i-preserved
loop-i-preserved g c =
    let cs = (g.H.Host.meaning c.args.host.now).columns in
    let i = c.loop-i.i in
    let l : i < length cs = omega (arith, c.column_count-i-end.ensures) in
    let long = length-map cs own_record in
    let one : c.from.result ≡ _ = c.from.ensures ∙ ap own_record c.column-column.ensures ∙ sym (get_or-map own_record cs i no_column no_bind l) in
    let more = take_more (own_records cs) i no_bind (omega arith) in
    let now = c.push.ensures.items in
    cc
