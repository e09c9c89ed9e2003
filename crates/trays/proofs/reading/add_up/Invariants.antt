use Rattle.std.proofs.Common.{length}
use Rattle.rows.specs.Reach.{capacities_of}
use Rattle.rows.specs.Standing.{pairs_of}
use Rattle.session.specs.Sessions.{table_of}
use Rattle.going.proofs.Reached.{Travelled}
use Rattle.trays.proofs.Adding.{Along}
use Rattle.trays.proofs.reading.add_up.Given as goal

abbrev pub invariant-loop-sums : goal.invariant-loop-sums
invariant-loop-sums g l =
    let means = g.H.Host.meaning in let s = l.initial.session in
    Along means (means s.host) (pairs_of (table_of s)) (length l.initial.arena) l.sums l.session l.arena
    × Travelled means (means s.host) (pairs_of (table_of s)) (length l.initial.arena) (capacities_of (table_of s)) l.initial.arena l.session l.arena

abbrev pub decreases-loop-sums : goal.decreases-loop-sums
decreases-loop-sums g l = length (g.H.Host.meaning l.session.host).coming
