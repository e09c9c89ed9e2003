use Rattle.host.specs.Meanings.{Row}
use Rattle.layout.specs.Tables.{SamePlaces}
use Rattle.rows.specs.Settling.{Half}
use Rattle.rows.proofs.Asked.{AskedTo}
use Rattle.rows.proofs.Wholes.{WholeTo}
use Rattle.rows.proofs.settling.fetch_missing.Given as goal

-- the places stay, the columns so far were asked for, and those of a row stand whole
abbrev pub invariant-loop-i : goal.invariant-loop-i
invariant-loop-i g l =
    (SamePlaces l.initial.new l.new)
    × AskedTo l.i (g.H.Host.meaning l.initial.host) l.old l.initial.new l.initial.arena (g.H.Host.meaning l.host) l.new l.arena
    × ((row : Row) → Half (g.H.Host.meaning l.initial.host) row l.old l.initial.new l.initial.arena → WholeTo l.i (g.H.Host.meaning l.initial.host) row l.old l.initial.new l.initial.arena (g.H.Host.meaning l.host) l.new l.arena)
