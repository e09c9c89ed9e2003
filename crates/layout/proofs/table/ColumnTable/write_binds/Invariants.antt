use Rattle.std.proofs.Common.{◌≡◌, map, length, take, drop}
use Rattle.layout.specs.Columns.{bind_of}
use Rattle.layout.specs.Tables.{items, count_of}
use Rattle.layout.proofs.table.ColumnTable.write_binds.Given as goal

-- the host is told of the columns so far, and the rest is as it was
abbrev pub invariant-loop-i : goal.invariant-loop-i
invariant-loop-i l = record {
  long : length l.records ≡ 64;
  told : take l.i l.records ≡ map bind_of (take l.i (items l.self));
  rest : drop (count_of l.self) l.records ≡ drop (count_of l.self) l.initial.records;
}
