use Rattle.std.proofs.Common.{◌≡◌, ℕ, ◌<◌, get_or, take}
use Rattle.layout.specs.Tables.{count_of, col, start, end, opening_size, first_record, no_pair}
use Rattle.layout.proofs.table.ColumnTable.open.Given as goal

-- the columns so far have their places
abbrev pub invariant-loop-column : goal.invariant-loop-column
invariant-loop-column l = record {
  room : l.self.room ≡ l.room;
  as_many : count_of l.self ≡ l.column-index;
  ends : end l.self ≡ opening_size (take l.column-index l.columns);
  each : (k : ℕ) → k < l.column-index → col l.self k ≡ first_record (get_or l.columns k no_pair) (start l.self k);
}
