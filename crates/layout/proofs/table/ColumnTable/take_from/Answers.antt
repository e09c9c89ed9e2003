use Rattle.std.proofs.Common.{◌≡◌, ◌≤◌, length, take, sym, ap, ◌∙◌, subst, arith}
use Rattle.std.proofs.lemmas.List.{take_all}
use Rattle.layout.specs.Columns.{total, Lies, SomeRoom, Sized}
use Rattle.layout.specs.Tables.{items}
use Rattle.layout.proofs.Spans.{count_is}
use Rattle.layout.proofs.table.ColumnTable.take_from.Goals as goal

pub invariant_of-self-2 : goal.invariant_of-self-2
invariant_of-self-2 c =
    let t = c.args.new.now in let u = c.loop-i.self in let inv = c.loop-i.invariant in
    let n : length c.columns-column-items.result.now ≡ length (items t) = ap length c.columns-column-items.ensures in
    let e : take t.count u.columns ≡ items t =
    ap (λ k. take k u.columns) (let k : t.count ≡ c.loop-i.i = omega (arith, count_is t, n, c.loop-i-test.false, c.loop-i.auto.i-end) in k) ∙ inv.taken ∙ take_all c.loop-i.i (items t) (omega (arith, c.loop-i-test.false, n)) in
    record {
      array = u.array;
      few = t.few;
      laid = subst Lies (sym e) t.laid;
      within = subst (λ z. total z ≤ u.room) (sym e) (omega (arith, t.within, inv.room));
      roomy = subst SomeRoom (sym e) t.roomy;
      sized = subst Sized (sym e) t.sized;
      short = u.short;
    }
