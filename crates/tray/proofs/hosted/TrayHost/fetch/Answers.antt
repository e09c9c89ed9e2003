use Rattle.std.proofs.Common.{◌+◌, true, false, sym, ap, rules}
use Rattle.tray.proofs.Rowed.{row_came}
use Rattle.tray.proofs.hosted.TrayHost.fetch.Goals as goal

pub returns-then-report : goal.returns-then-report
returns-then-report c =
    row_came c.args.self.now c.in-Some.place c.args.reports.now c.args.arena.now c.write_field-report.new.part c.write_field-report.result (c.from-k.result + 1) true
    (sym c.in-Some.ensures.allowed) c.in-Some.ensures.inside (ap (λ n. n + 1) c.from-k.ensures) c.if-self.false (search rules) (search rules) _ (search rules)
    c.write_field-report.ensures.reported c.write_field-report.ensures.stands c.if-report.true

pub returns-else-report : goal.returns-else-report
returns-else-report c =
    row_came c.args.self.now c.in-Some.place c.args.reports.now c.args.arena.now c.write_field-report.new.part c.write_field-report.result (c.from-k.result + 1) false
    (sym c.in-Some.ensures.allowed) c.in-Some.ensures.inside (ap (λ n. n + 1) c.from-k.ensures) c.if-self.false (search rules) (search rules) _ (search rules)
    c.write_field-report.ensures.reported c.write_field-report.ensures.stands c.if-report.false
