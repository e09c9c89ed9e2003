use Rattle.std.proofs.Common.{length}
use Rattle.tally.proofs.Summed.{Going}
use Rattle.tally.proofs.count.count_events.Given as goal

abbrev pub invariant-loop-reports : goal.invariant-loop-reports
invariant-loop-reports g l = Going l.totals (g.H.Host.meaning l.host) (g.H.Host.meaning l.initial.host)

abbrev pub decreases-loop-reports : goal.decreases-loop-reports
decreases-loop-reports g l = length (g.H.Host.meaning l.host).coming
