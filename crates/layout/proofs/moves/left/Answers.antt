use Rattle.std.proofs.Common.{◌+◌, refl, sym, ap, ◌∙◌, inl, inr, ⊎_elim, arith}
use Rattle.layout.specs.Tables.{items}
use Rattle.layout.proofs.Carrying.{from_front, none_left, stands_inside, lands_inside, left_shifted, left_stays}
use Rattle.layout.proofs.moves.left.Goals as goal

pub loop-from-init : goal.loop-from-init
loop-from-init c = record {
  i = 0;
  old_left = ap (λ z. z.a.rest.now) c.into_iter-from-iterator.ensures.into_iter_gives ∙ ap (λ z. z.rest.now) c.zip-from-items.ensures.first ∙ c.iter.ensures.rest ∙ c.columns.ensures;
  new_left = ap (λ z. z.b.rest.now) c.into_iter-from-iterator.ensures.into_iter_gives ∙ ap (λ z. z.rest.now) c.zip-from-items.ensures.second ∙ c.iter-2.ensures.rest ∙ c.columns-2.ensures;
  moved = (λ k m j o. absurd (omega arith), λ k m n j o. refl, λ p m. refl);
}

pub shift-requires : goal.shift-requires
shift-requires c =
    let inv = c.loop-from.invariant in let room = c.requires.room in let long = c.loop-from.auto.arena in
    let x = from_front (items c.args.old.now) inv.i _ _ (sym inv.old_left ∙ c.in-Some.ensures.steps.0) in
    let y = from_front (items c.args.new.now) inv.i _ _ (sym inv.new_left ∙ c.in-Some.ensures.steps.1) in
    record {
      stands = omega (arith, c.kept.ensures, stands_inside c.args.old.now c.args.new.now c.requires.grown inv.i x.0 _ _ x.1 y.1);
      lands = omega (arith, c.kept.ensures, lands_inside c.args.old.now c.args.new.now c.requires.grown inv.i x.0 _ _ x.1 y.1);
    }

pub loop-from-preserved-then-to-from : goal.loop-from-preserved-then-to-from
loop-from-preserved-then-to-from c =
    let inv = c.loop-from.invariant in let s = c.shift.ensures in
    let x = from_front (items c.args.old.now) inv.i _ _ (sym inv.old_left ∙ c.in-Some.ensures.steps.0) in
    let y = from_front (items c.args.new.now) inv.i _ _ (sym inv.new_left ∙ c.in-Some.ensures.steps.1) in
    record {
      i = inv.i + 1;
      old_left = sym x.2;
      new_left = sym y.2;
      moved = left_shifted c.args.old.now c.args.new.now c.requires.grown inv.i x.0 _ _ x.1 y.1 c.args.arena.now c.loop-from.arena c.shift.new.arena c.kept.result c.kept.ensures s.moved s.before s.after c.if-to-from.true inv.moved;
    }

pub loop-from-preserved : goal.loop-from-preserved
loop-from-preserved c =
    let inv = c.loop-from.invariant in
    let x = from_front (items c.args.old.now) inv.i _ _ (sym inv.old_left ∙ c.in-Some.ensures.steps.0) in
    let y = from_front (items c.args.new.now) inv.i _ _ (sym inv.new_left ∙ c.in-Some.ensures.steps.1) in
    record {
      i = inv.i + 1;
      old_left = sym x.2;
      new_left = sym y.2;
      moved = left_stays c.args.old.now c.args.new.now c.requires.grown inv.i x.0 _ _ x.1 y.1 c.args.arena.now c.loop-from.arena c.if-to-from.false inv.moved;
    }

pub returns : goal.returns
returns c =
    let old = c.args.old.now in let new = c.args.new.now in let inv = c.loop-from.invariant in
    let done = none_left inv.i (items old) (items new) c.requires.grown.laid.count _ _ inv.old_left inv.new_left (⊎_elim (λ x. inl x.1.0) (λ x. inr x.1.0) c.in-None.ensures.steps) in
    record { carried = λ k l. inv.moved.0 k (omega (arith, done)); beyond = inv.moved.2 }
