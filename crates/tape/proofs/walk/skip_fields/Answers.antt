use Rattle.std.proofs.Common.{sym, subst}
use Rattle.std.specs.List.{flat_map}
use Rattle.tape.specs.declared.recording.Columns.{Columns}
use Rattle.tape.specs.Format.{field_bytes, RowOf}
use Rattle.tape.specs.Steps.{Passes}
use Rattle.tape.specs.Views.{field_of, ColumnsFrom}
use Rattle.tape.proofs.Columned.{from_some, from_end}
use Rattle.tape.proofs.Walked.{walk_start, fields_on, fields_cut, fields_all}
use Rattle.tape.proofs.walk.skip_fields.Goals as goal

pub loop-column-init : goal.loop-column-init
loop-column-init c = λ cs h. record {
  left = cs;
  columns_from = subst (λ (s : Columns). ColumnsFrom s.bytes.now cs) (sym c.into_iter-column-iterator.ensures.into_iter_gives) h;
  walk = walk_start;
}

pub returns-in_err-rest : goal.returns-in_err-rest
returns-in_err-rest c = λ cs h.
    let w = c.loop-column.invariant cs h in
    let k = from_some c.loop-column.column-iterator.bytes.now w.left c.in-Some.column c.next.new.self.bytes.now w.columns_from c.in-Some.ensures.steps.steps in
    subst (Passes (RowOf cs) (flat_map field_bytes) c.args.bytes.now) (sym c.from_residual.ensures)
    (fields_cut cs c.args.bytes.now c.loop-column.column-iterator.bytes.now c.loop-column.rest.now c.in-Some.column w k.0 c.in_err-rest.ensures)

pub loop-column-preserved : goal.loop-column-preserved
loop-column-preserved c = λ cs h.
    let w = c.loop-column.invariant cs h in
    let k = from_some c.loop-column.column-iterator.bytes.now w.left c.in-Some.column c.next.new.self.bytes.now w.columns_from c.in-Some.ensures.steps.steps in
    fields_on cs c.args.bytes.now c.loop-column.column-iterator.bytes.now c.loop-column.rest.now c.next.new.self.bytes.now c.in-Some.column
    (field_of c.in_ok-rest.field-0-0) c.in_ok-rest.field-0-1.now w k c.in_ok-rest.ensures

pub returns : goal.returns
returns c = λ cs h.
    let w = c.loop-column.invariant cs h in
    let e = from_end c.loop-column.column-iterator.bytes.now w.left w.columns_from c.in-None.ensures.steps.steps.0 in
    fields_all cs c.args.bytes.now c.loop-column.column-iterator.bytes.now c.loop-column.rest.now w e
