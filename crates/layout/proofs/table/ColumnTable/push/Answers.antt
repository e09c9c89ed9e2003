use Rattle.std.proofs.Common.{◌≡◌, ◌+◌, ◌≤◌, [], ◌∷◌, ◌++◌, take, set, sym, ◌∙◌, subst, arith, length-set}
use Rattle.std.proofs.lemmas.List.{take_more_set}
use Rattle.std.proofs.lemmas.List.Sums.{sum_by_push}
use Rattle.layout.specs.declared.record.ColumnRecord.{ColumnRecord}
use Rattle.layout.specs.Columns.{moved, total, Lies, SomeRoom, Sized}
use Rattle.layout.specs.Tables.{items}
use Rattle.layout.proofs.Spans.{capacity, count_is}
use Rattle.layout.proofs.Putting.{lies_push, roomy_push, sized_push}
use Rattle.layout.proofs.table.ColumnTable.push.Goals as goal

pub invariant_of-self : goal.invariant_of-self
invariant_of-self c =
    let t = c.args.self.now in let cs = items t in
    let x : ColumnRecord = moved c.args.column c.end-start.result c.args.column.capacity in
    let e : take (t.count + 1) (set t.columns t.count x) ≡ cs ++ x ∷ [] = take_more_set t.columns t.count x (omega (arith, t.array, count_is t, c.requires.few)) in
    let w = t.within in
    record {
      array = length-set t.columns t.count x ∙ t.array;
      few = omega (arith, count_is t, c.requires.few);
      laid = subst Lies (sym e) (lies_push cs x c.end-start.ensures t.laid);
      within = subst (λ z. total z ≤ t.room) (sym e) (omega (arith, sum_by_push capacity cs x, c.end-start.ensures, c.if-column-self.false));
      roomy = subst SomeRoom (sym e) (roomy_push cs x c.requires.some t.roomy);
      sized = subst Sized (sym e) (sized_push cs x c.requires.sized t.sized);
      short = t.short;
    }
