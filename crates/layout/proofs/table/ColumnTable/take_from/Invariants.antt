use Rattle.std.proofs.Common.{◌≡◌, take}
use Rattle.layout.specs.Tables.{items}
use Rattle.layout.proofs.table.ColumnTable.take_from.Given as goal

-- the columns so far stand in the array, and are not counted yet
abbrev pub invariant-loop-i : goal.invariant-loop-i
invariant-loop-i l = record {
  none : l.self.count ≡ 0;
  room : l.self.room ≡ l.new.room;
  taken : take l.i l.self.columns ≡ take l.i (items l.new);
}
