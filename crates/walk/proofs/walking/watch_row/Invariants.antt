use Rattle.std.proofs.Common.{List, ◌∷◌, ◌++◌}
use Rattle.rows.specs.Standing.{pairs_of}
use Rattle.session.specs.Sessions.{table_of, shown_row}
use Rattle.walk.specs.Walks.{Said, a_row, columns_said}
use Rattle.walk.proofs.walking.watch_row.Given as goal

-- the columns so far
abbrev pub invariant-loop-column : goal.invariant-loop-column
invariant-loop-column g l =
    (said : List Said) → g.W.Watch.heard l.fn.watch said
    → g.W.Watch.heard l.watch (said ++ a_row ∷ columns_said (pairs_of (table_of l.session)) (shown_row (g.H.Host.meaning l.session.host) l.session) l.column)
