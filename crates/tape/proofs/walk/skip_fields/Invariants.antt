use Rattle.std.proofs.Common.{List}
use Rattle.mysql.specs.declared.bind.Column.{Column}
use Rattle.tape.specs.Views.{ColumnsFrom}
use Rattle.tape.proofs.Walked.{FieldsWalked}
use Rattle.tape.proofs.walk.skip_fields.Given as goal

-- the fields still to come are those of the columns still to come
abbrev pub invariant-loop-column : goal.invariant-loop-column
invariant-loop-column l = (cs : List Column) → ColumnsFrom l.columns cs → FieldsWalked cs l.bytes l.column-iterator.bytes.now l.rest
