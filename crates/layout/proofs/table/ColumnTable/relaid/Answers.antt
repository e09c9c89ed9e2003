use Rattle.std.proofs.Common.{◌≡◌, ℕ, ◌<◌, get_or, sym, ap, length, ◌∙◌, subst, arith}
use Rattle.std.proofs.lemmas.List.Sums.{sum_by_more, sum_by_more_le}
use Rattle.std.proofs.lemmas.List.{take_all}
use Rattle.layout.specs.Columns.{no_record, moved, wanted, sum}
use Rattle.layout.specs.Tables.{items, count_of, col, end}
use Rattle.layout.proofs.Wanting.{gets, gets_some, gets_sized, gets_moved}
use Rattle.layout.proofs.Putting.{added_count, added_each}
use Rattle.layout.proofs.table.ColumnTable.relaid.Goals as goal

pub push-requires-clause-some : goal.push-requires-clause-some
push-requires-clause-some g c =
    let w = c.requires.layout.1 _ _ (record { shown = _; shows = λ j. get_or c.columns-column-items.result.now c.loop-column.column-index no_record; says = record { met = c.capacity.ensures } }) in
    let d = c.columns-column-items.ensures in
    gets_some c.args.self.now c.columns-column-items.result.now d c.loop-column.column-index (omega (arith, ap length d)) c.requires.layout.0 c.capacity.result w

pub push-requires-clause-sized : goal.push-requires-clause-sized
push-requires-clause-sized g c =
    let w = c.requires.layout.1 _ _ (record { shown = _; shows = λ j. get_or c.columns-column-items.result.now c.loop-column.column-index no_record; says = record { met = c.capacity.ensures } }) in
    let d = c.columns-column-items.ensures in
    gets_sized c.args.self.now c.columns-column-items.result.now d c.loop-column.column-index (omega (arith, ap length d)) c.requires.layout.0 c.capacity.result w

pub returns-in_err-push : goal.returns-in_err-push
returns-in_err-push g c = λ tight h.
    let s = c.args.self.now in let i = c.loop-column.column-index in
    let xs = c.columns-column-items.result.now in let n = c.capacity.result in
    let inv = c.loop-column.invariant in
    let e = c.columns-column-items.ensures in
    let l : i < count_of s = omega (arith, ap length e) in
    let w = h _ _ (record { shown = _; shows = λ j. get_or c.columns-column-items.result.now c.loop-column.column-index no_record; says = record { met = c.capacity.ensures } }) in
    rw c.from_residual.ensures
    (omega (arith, c.in_err-push.ensures, inv.room, (inv.laid tight h).0, gets s xs e i l tight n w, sum_by_more_le (wanted tight) (items s) i no_record l))

pub loop-column-preserved : goal.loop-column-preserved
loop-column-preserved g c =
    let s = c.args.self.now in let t = c.loop-column.new in let v = c.push.new.self in let i = c.loop-column.column-index in
    let inv = c.loop-column.invariant in let a = c.in_ok-push.ensures in
    let xs = c.columns-column-items.result.now in let n = c.capacity.result in
    let l : i < count_of s = omega (arith, ap length c.columns-column-items.ensures) in
    record {
      room = a.room ∙ inv.room;
      as_many = omega (arith, added_count _ t v a, inv.as_many);
      laid = λ tight h.
          let w = h _ _ (record { shown = _; shows = λ j. get_or c.columns-column-items.result.now c.loop-column.column-index no_record; says = record { met = c.capacity.ensures } }) in
          let e = c.columns-column-items.ensures in (
            omega (arith, a.ends, (inv.laid tight h).0, gets s xs e i l tight n w, sum_by_more (wanted tight) (items s) i no_record l),
            λ k m. added_each _ t v a (λ k z. z ≡ moved (col s k) z.start (wanted tight (col s k)))
                (subst (λ (k : ℕ). moved (get_or xs i no_record) (end t) n ≡ moved (col s k) (end t) (wanted tight (col s k))) (sym inv.as_many) (gets_moved s xs e i l tight n w (end t)))
                (λ k o. (inv.laid tight h).1 k (omega (arith, inv.as_many)))
                k (omega (arith, inv.as_many)),
          );
    }

pub returns : goal.returns
returns g c = λ tight h.
    let s = c.args.self.now in let t = c.loop-column.new in
    let inv = c.loop-column.invariant in let within = t.within in
    let e = c.columns-column-items.ensures in
    let ends : end t ≡ sum tight (items s) = (inv.laid tight h).0 ∙ ap (sum tight) (take_all c.loop-column.column-index (items s) (omega (arith, ap length e))) in (
      omega (arith, ends, inv.room),
      record { count = omega (arith, inv.as_many, ap length e); room = inv.room; each = λ k l. (inv.laid tight h).1 k (omega (arith, ap length e)) },
    )
