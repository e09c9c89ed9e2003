use Rattle.std.proofs.Common.{◌≡◌, take}
use Rattle.tally.specs.Tallies.{own_records}
use Rattle.tally.proofs.records.own_records.Given as goal

-- the records of the columns so far
abbrev pub invariant-loop-i : goal.invariant-loop-i
invariant-loop-i g l = l.records.items ≡ take l.i (own_records (g.H.Host.meaning l.host).columns)
