use Rattle.std.proofs.Common.{◌≡◌, ℕ, ◌<◌, Bool, take}
use Rattle.std.specs.Fn.{FnReturnsAt}
use Rattle.layout.specs.Columns.{moved, wanted, sum, RuleOf}
use Rattle.layout.specs.Tables.{items, count_of, col, start, end}
use Rattle.layout.proofs.table.ColumnTable.relaid.Given as goal

-- the columns so far have their new places
abbrev pub invariant-loop-column : goal.invariant-loop-column
invariant-loop-column g l = record {
  room : l.new.room ≡ l.self.room;
  as_many : count_of l.new ≡ l.column-index;
  laid : (tight : Bool) → RuleOf (FnReturnsAt g.F.Fn l.capacity) tight
      → (end l.new ≡ sum tight (take l.column-index (items l.self)))
      × ((k : ℕ) → k < l.column-index → col l.new k ≡ moved (col l.self k) (start l.new k) (wanted tight (col l.self k)));
}
