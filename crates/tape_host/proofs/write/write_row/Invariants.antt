use Rattle.host.proofs.Written.{Written}
use Rattle.tape.specs.Format.{RowContents}
use Rattle.tape.specs.Views.{RowShows}
use Rattle.tape_host.specs.Tapes.{shown}
use Rattle.tape_host.specs.Walks.{Left}
use Rattle.tape_host.proofs.write.write_row.Given as goal

abbrev pub invariant-loop-i : goal.invariant-loop-i
invariant-loop-i l =
    (r : RowContents) → RowShows l.row r
    → Left r l.i l.rest × Written l.i (shown r.fields) l.places l.reports l.initial.arena l.arena l.truncated
