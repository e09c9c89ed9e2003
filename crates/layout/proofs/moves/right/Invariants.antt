use Rattle.std.proofs.Common.{◌≡◌, ℕ, ◌≤◌, take}
use Rattle.layout.specs.Tables.{items, count_of}
use Rattle.layout.proofs.Carrying.{RightSoFar}
use Rattle.layout.proofs.moves.right.Given as goal

-- the columns from the i-th on have moved, and those before it are to come
abbrev pub invariant-loop-from : goal.invariant-loop-from
invariant-loop-from l = record {
  i : ℕ;
  within : i ≤ count_of l.old;
  old_left : l.from-iterator.a.iter.rest.now ≡ take i (items l.old);
  new_left : l.from-iterator.b.iter.rest.now ≡ take i (items l.new);
  moved : RightSoFar l.old l.new i l.initial.arena l.arena;
}
