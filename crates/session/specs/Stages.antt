-- How far a session has come: what an opening left, or none.
use Rattle.std.specs.Prelude.{Bool, false, replicate, Some, None, Option}
use Rattle.std.proofs.Common.{arith}
use Rattle.std.proofs.lemmas.List.{length-replicate}
use Rattle.layout.specs.declared.table.ColumnTable.{ColumnTable}
use Rattle.layout.specs.Columns.{no_record}
use Rattle.session.specs.declared.state.Opened.{Opened}

-- the last fetch showed a row
abbrev pub shown : Option Opened → Bool
shown None = false
shown (Some o) = o.shown

-- a table with no columns and no room
abbrev pub empty_table : ColumnTable
empty_table = record {
  columns = replicate 64 no_record;
  count = 0;
  room = 0;
  array = length-replicate 64 no_record;
  few = omega arith;
  laid = λ k l. omega arith;
  within = omega arith;
  roomy = λ k l. omega arith;
  sized = λ k l. omega arith;
  short = omega arith;
}

-- the columns as they are bound: an empty table where no opening was granted
abbrev pub table : Option Opened → ColumnTable
table None = empty_table
table (Some o) = o.table
