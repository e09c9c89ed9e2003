use Rattle.std.proofs.Common.{[], length, sym, ap, ◌∙◌, subst}
use Rattle.host.specs.Meanings.{Meaning}
use Rattle.tally.specs.declared.totals.Totals.{Totals}
use Rattle.tally.proofs.Summed.{Going, row_fetched, going_row, going_failure, still_allowed, failed_came, fewer}
use Rattle.tally.proofs.count.count_events.Goals as goal

pub loop-reports-preserved-in-Row : goal.loop-reports-preserved-in-Row
loop-reports-preserved-in-Row g c =
    let m = g.H.Host.meaning c.loop-reports.host in
    let m₀ = g.H.Host.meaning c.args.host.now in
    let m' = g.H.Host.meaning c.fetch.new.self in
    let w = (row_fetched m m' _ _ _ _ c.in-Row.is c.fetch.ensures).1 in
    subst (λ (t : Totals). Going t m' m₀) (sym c.add_row-totals.ensures)
    (going_row c.loop-reports.totals m m₀ c.loop-reports.invariant m' w.fields w.rest w.places c.fetch.new.reports w.next w.bound w.after
    (w.as_many_reports ∙ c.loop-reports.auto.reports ∙ c.requires.reported) w.reported)

pub loop-reports-smaller : goal.loop-reports-smaller
loop-reports-smaller g c =
    let m = g.H.Host.meaning c.loop-reports.host in
    let m₀ = g.H.Host.meaning c.args.host.now in
    let ok = still_allowed c.loop-reports.totals m m₀ (length c.loop-reports.reports) c.loop-reports.invariant (c.loop-reports.auto.reports ∙ c.requires.reported) in
    let w = failed_came m _ _ _ [] _ ok c.in-Failed.ensures in
    fewer m.coming _ w.rest _ w.next (ap (λ (x : Meaning). x.coming) w.after)

pub loop-reports-preserved : goal.loop-reports-preserved
loop-reports-preserved g c =
    let m = g.H.Host.meaning c.loop-reports.host in
    let m₀ = g.H.Host.meaning c.args.host.now in
    let ok = still_allowed c.loop-reports.totals m m₀ (length c.loop-reports.reports) c.loop-reports.invariant (c.loop-reports.auto.reports ∙ c.requires.reported) in
    let w = failed_came m _ _ _ [] _ ok c.in-Failed.ensures in
    going_failure c.loop-reports.totals m m₀ c.loop-reports.invariant _ w.number w.rest c.saturating_add.result w.next c.saturating_add.ensures w.after
