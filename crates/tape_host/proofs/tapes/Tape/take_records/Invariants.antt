use Rattle.std.proofs.Common.{◌≡◌, false, length, take}
use Rattle.tape_host.proofs.tapes.Tape.take_records.Given as goal

-- the records so far stand at the front of the array, and are not bound yet
abbrev pub invariant-loop-i : goal.invariant-loop-i
invariant-loop-i l = record {
  unbound : l.self.is_bound ≡ false;
  events : l.self.events ≡ l.initial.self.events;
  width : l.self.width ≡ l.initial.self.width;
  current : l.self.current ≡ l.initial.self.current;
  error : l.self.error ≡ l.initial.self.error;
  long : length l.self.records ≡ length l.initial.self.records;
  taken : take l.i l.self.records ≡ take l.i l.records;
}
