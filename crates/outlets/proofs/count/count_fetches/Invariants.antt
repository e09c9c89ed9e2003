use Rattle.std.proofs.Common.{length}
use Rattle.rows.specs.Reach.{capacities_of}
use Rattle.rows.specs.Standing.{pairs_of}
use Rattle.session.specs.Sessions.{table_of}
use Rattle.going.proofs.Reached.{Travelled}
use Rattle.outlets.proofs.Counting.{Counting}
use Rattle.outlets.proofs.count.count_fetches.Given as goal

abbrev pub invariant-loop-counts : goal.invariant-loop-counts
invariant-loop-counts g l =
    let means = g.H.Host.meaning in let s = l.initial.session in
    Counting means (means s.host) (pairs_of (table_of s)) (length l.initial.arena) l.counts l.session l.arena
    × Travelled means (means s.host) (pairs_of (table_of s)) (length l.initial.arena) (capacities_of (table_of s)) l.initial.arena l.session l.arena

abbrev pub decreases-loop-counts : goal.decreases-loop-counts
decreases-loop-counts g l = length (g.H.Host.meaning l.session.host).coming
