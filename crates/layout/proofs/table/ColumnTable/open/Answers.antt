use Rattle.std.proofs.Common.{◌≡◌, ℕ, get_or, sym, ◌∙◌, subst, arith}
use Rattle.std.proofs.lemmas.List.Sums.{sum_by_more}
use Rattle.mysql.specs.declared.bind.Column.{Column}
use Rattle.mysql.specs.Types.{size_of}
use Rattle.layout.specs.Tables.{end, first_capacity, first_record, no_pair}
use Rattle.layout.proofs.Putting.{added_count, added_each}
use Rattle.layout.proofs.table.ColumnTable.open.Goals as goal

pub loop-column-preserved : goal.loop-column-preserved
loop-column-preserved c =
    let t = c.loop-column.self in let v = c.push.new.self in let i = c.loop-column.column-index in
    let pairs = c.args.columns.now in let inv = c.loop-column.invariant in
    let a = c.in_ok-push.ensures in
    let d = c.default.ensures.1.1 in
    let p : Column = get_or pairs i no_pair in
    let is : record { start = end t; capacity = c.least_capacity.result; length = c.default.result.length; flags = p.flags; code = p.code; is_null = c.default.result.is_null; is_truncated = c.default.result.is_truncated } ≡ first_record p (end t)
    = λ j. record { start = end t; capacity = c.least_capacity.ensures j; length = d.0 j; flags = p.flags; code = p.code; is_null = d.1.1.1.0 j; is_truncated = d.1.1.1.1 j } in
    record {
      room = a.room ∙ inv.room;
      as_many = omega (arith, added_count _ t v a, inv.as_many);
      ends = omega (arith, a.ends, inv.ends, c.least_capacity.ensures, sum_by_more (λ (z : Column). first_capacity (size_of z.code)) pairs i no_pair (omega arith));
      each = λ k l. added_each _ t v a (λ k z. z ≡ first_record (get_or pairs k no_pair) z.start)
          (subst (λ (n : ℕ). record { start = end t; capacity = c.least_capacity.result; length = c.default.result.length; flags = p.flags; code = p.code; is_null = c.default.result.is_null; is_truncated = c.default.result.is_truncated } ≡ first_record (get_or pairs n no_pair) (end t)) (sym inv.as_many) is)
          (λ k m. inv.each k (omega (arith, inv.as_many)))
          k (omega (arith, inv.as_many));
    }
