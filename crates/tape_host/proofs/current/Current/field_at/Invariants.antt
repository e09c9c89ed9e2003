use Rattle.tape.specs.Format.{RowContents}
use Rattle.tape.specs.Views.{RowShows}
use Rattle.tape_host.specs.Walks.{Left}
use Rattle.tape_host.proofs.current.Current.field_at.Given as goal

abbrev pub invariant-loop-i : goal.invariant-loop-i
invariant-loop-i l = (r : RowContents) → RowShows l.row r → Left r l.i l.rest
