use Rattle.std.proofs.Common.{Err, sym, ap, ◌∙◌, rules}
use Rattle.readings.proofs.Ends.{high32, low32, inside, too_low, too_high}
use Rattle.readings.proofs.floats.f32_to_i64.Goals as goal
use Rattle.readings.proofs.floats.f32_to_i64.Goals.{else-x-via-then-x+else-x-2, else-x-via-else-x}

pub returns-then-x-2 : goal.returns-then-x-2
returns-then-x-2 c =
    let a = rw low32 at c.if-x.true in
    let b = rw high32 at c.if-x-2.true in
    let i = inside c.args.x a b in search rules

pub returns-else-x : goal.returns-else-x
returns-else-x c =
    elim c.else-x.branch [
      | else-x-via-then-x+else-x-2 w ↦ ap Err c.new.ensures ∙ sym (too_high c.args.x (rw high32 at w.if-x-2.false))
      | else-x-via-else-x w ↦ ap Err c.new.ensures ∙ sym (too_low c.args.x (rw low32 at w.if-x.false))
    ]
