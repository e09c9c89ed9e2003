use Rattle.std.proofs.Common.{length}
use Rattle.rows.specs.Reach.{capacities_of}
use Rattle.rows.specs.Standing.{pairs_of}
use Rattle.session.specs.Sessions.{table_of}
use Rattle.going.proofs.Reached.{Travelled}
use Rattle.walk.proofs.Saying.{Along}
use Rattle.walk.proofs.walking.watch_events.Given as goal

abbrev pub invariant-loop-session : goal.invariant-loop-session
invariant-loop-session g l =
    let means = g.H.Host.meaning in let s = l.fn.session in
    Along means g.W.Watch.heard (means s.host) (pairs_of (table_of s)) (length l.fn.arena) l.fn.watch l.session l.arena l.watch
    × Travelled means (means s.host) (pairs_of (table_of s)) (length l.fn.arena) (capacities_of (table_of s)) l.fn.arena l.session l.arena

abbrev pub decreases-loop-session : goal.decreases-loop-session
decreases-loop-session g l = length (g.H.Host.meaning l.session.host).coming
