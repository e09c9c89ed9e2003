use Rattle.std.proofs.Common.{List, ◌-◌}
use Rattle.mysql.specs.declared.bind.Column.{Column}
use Rattle.tape.specs.Format.{event_bytes, EventsOf, ColumnsIn}
use Rattle.tape.proofs.Walked.{Walk}
use Rattle.tape.proofs.recording.Events.end.Given as goal

-- the events still to come are those that are not counted yet
abbrev pub invariant-loop : goal.invariant-loop
invariant-loop l =
    (cs : List Column) → ColumnsIn l.self.columns.now cs
    → Walk (EventsOf cs l.self.count) (EventsOf cs (l.self.count - l.counter)) event_bytes l.self.bytes.now l.rest
