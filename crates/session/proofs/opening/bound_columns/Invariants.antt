use Rattle.std.proofs.Common.{◌≡◌, length}
use Rattle.session.proofs.Binds.{SoFar}
use Rattle.session.proofs.opening.bound_columns.Given as goal

-- the columns so far are bound
abbrev pub invariant-loop-i : goal.invariant-loop-i
invariant-loop-i g l = (length l.pairs.items ≡ l.i) × SoFar l.wanted (g.H.Host.meaning l.host).columns l.i l.pairs.items
