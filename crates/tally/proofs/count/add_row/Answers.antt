use Rattle.std.proofs.Common.{◌+◌, ap, ◌∙◌, arith}
use Rattle.tally.specs.Tallies.{capped}
use Rattle.tally.specs.Reports.{null_reports, byte_reports}
use Rattle.tally.proofs.Summed.{reports_added}
use Rattle.tally.proofs.count.add_row.Goals as goal

pub returns : goal.returns
returns c =
    let t = c.args.totals in
    let rs = c.args.reports.now in
    c.add_reports.ensures ∙ reports_added rs _ (omega arith) (omega arith)
    ∙ ap (λ n. record { rows = n; failures = t.failures; nulls = capped (t.nulls + null_reports rs); bytes = capped (t.bytes + byte_reports rs) }) c.saturating_add.ensures
