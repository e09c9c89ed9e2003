use Rattle.layout.proofs.Noting.{NotedSoFar}
use Rattle.layout.proofs.table.ColumnTable.note_all.Given as goal

abbrev pub invariant-loop-i : goal.invariant-loop-i
invariant-loop-i l = NotedSoFar l.i l.initial.self l.reports l.self l.plain
