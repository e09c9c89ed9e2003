use Rattle.std.proofs.Common.{length}
use Rattle.rows.specs.Standing.{pairs_of}
use Rattle.session.specs.Sessions.{table_of}
use Rattle.outlets.proofs.Searching.{Searching}
use Rattle.outlets.proofs.find.find.Given as goal

abbrev pub invariant-loop-session : goal.invariant-loop-session
invariant-loop-session g l =
    let means = g.H.Host.meaning in let s = l.initial.session in
    Searching means (means s.host) (pairs_of (table_of s)) l.initial.arena l.fn.class l.initial.into l.session l.arena l.into

abbrev pub decreases-loop-session : goal.decreases-loop-session
decreases-loop-session g l = length (g.H.Host.meaning l.session.host).coming
