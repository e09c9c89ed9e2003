use Rattle.std.proofs.Common.{◌≡◌, ℕ, drop}
use Rattle.layout.specs.Tables.{items}
use Rattle.layout.proofs.Carrying.{LeftSoFar}
use Rattle.layout.proofs.moves.left.Given as goal

-- the columns before the i-th have moved, and the others are to come
abbrev pub invariant-loop-from : goal.invariant-loop-from
invariant-loop-from l = record {
  i : ℕ;
  old_left : l.from-iterator.a.rest.now ≡ drop i (items l.old);
  new_left : l.from-iterator.b.rest.now ≡ drop i (items l.new);
  moved : LeftSoFar l.old l.new i l.initial.arena l.arena;
}
