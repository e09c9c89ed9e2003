use Rattle.std.proofs.Common.{ℕ, ◌-◌, ◌<◌, length, refl, sym, ap, ◌∙◌, inl, inr, ⊎_elim, subst, arith}
use Rattle.std.proofs.lemmas.List.{take_all}
use Rattle.layout.specs.Tables.{items, count_of}
use Rattle.layout.proofs.Carrying.{RightSoFar, from_back, none_before, stands_inside, lands_inside, right_shifted, right_stays}
use Rattle.layout.proofs.moves.right.Goals as goal

pub loop-from-init : goal.loop-from-init
loop-from-init c =
    let old = (items c.args.old.now) in let new = (items c.args.new.now) in
    let same = c.requires.grown.laid.count in
    record {
      i = length old;
      within = omega arith;
      old_left = ap (λ z. z.a.iter.rest.now) c.into_iter-from-iterator.ensures.into_iter_gives ∙ ap (λ z. z.iter.rest.now) c.zip-from-items.ensures.first ∙ ap (λ z. z.rest.now) c.rev.ensures.source ∙ c.iter.ensures.rest ∙ c.columns.ensures ∙ sym (take_all (length old) old (omega arith));
      new_left = ap (λ z. z.b.iter.rest.now) c.into_iter-from-iterator.ensures.into_iter_gives ∙ ap (λ z. z.iter.rest.now) c.zip-from-items.ensures.second ∙ ap (λ z. z.rest.now) c.rev-2.ensures.source ∙ c.iter-2.ensures.rest ∙ c.columns-2.ensures ∙ sym (take_all (length old) new (omega arith));
      moved = (λ k m j o. refl, λ k m n j o. absurd (omega arith), λ p m. refl);
    }

pub shift-requires : goal.shift-requires
shift-requires c =
    let old = c.args.old.now in let new = c.args.new.now in let inv = c.loop-from.invariant in let same = c.requires.grown.laid.count in
    let x = from_back (items old) inv.i _ _ inv.within (sym inv.old_left ∙ c.in-Some.ensures.steps.0) in
    let y = from_back (items new) inv.i _ _ (omega (arith, inv.within)) (sym inv.new_left ∙ c.in-Some.ensures.steps.1) in
    let l : inv.i - 1 < count_of old = omega (arith, inv.within, x.0) in
    let room = c.requires.room in let long = c.loop-from.auto.arena in
    record {
      stands = omega (arith, c.kept.ensures, stands_inside old new c.requires.grown (inv.i - 1) l _ _ x.1 y.1);
      lands = omega (arith, c.kept.ensures, lands_inside old new c.requires.grown (inv.i - 1) l _ _ x.1 y.1);
    }

pub loop-from-preserved-then-from-to : goal.loop-from-preserved-then-from-to
loop-from-preserved-then-from-to c =
    let old = c.args.old.now in let new = c.args.new.now in let inv = c.loop-from.invariant in let same = c.requires.grown.laid.count in
    let x = from_back (items old) inv.i _ _ inv.within (sym inv.old_left ∙ c.in-Some.ensures.steps.0) in
    let y = from_back (items new) inv.i _ _ (omega (arith, inv.within)) (sym inv.new_left ∙ c.in-Some.ensures.steps.1) in
    let l : inv.i - 1 < count_of old = omega (arith, inv.within, x.0) in
    let s = c.shift.ensures in
    record {
      i = inv.i - 1;
      within = omega (arith, l);
      old_left = sym x.2;
      new_left = sym y.2;
      moved = right_shifted old new c.requires.grown (inv.i - 1) l _ _ x.1 y.1 c.args.arena.now c.loop-from.arena c.shift.new.arena c.kept.result c.kept.ensures s.moved s.before s.after c.if-from-to.true
          (subst (λ (k : ℕ). RightSoFar old new k c.args.arena.now c.loop-from.arena) x.0 inv.moved);
    }

pub loop-from-preserved : goal.loop-from-preserved
loop-from-preserved c =
    let old = c.args.old.now in let new = c.args.new.now in let inv = c.loop-from.invariant in let same = c.requires.grown.laid.count in
    let x = from_back (items old) inv.i _ _ inv.within (sym inv.old_left ∙ c.in-Some.ensures.steps.0) in
    let y = from_back (items new) inv.i _ _ (omega (arith, inv.within)) (sym inv.new_left ∙ c.in-Some.ensures.steps.1) in
    let l : inv.i - 1 < count_of old = omega (arith, inv.within, x.0) in
    record {
      i = inv.i - 1;
      within = omega (arith, l);
      old_left = sym x.2;
      new_left = sym y.2;
      moved = right_stays old new c.requires.grown (inv.i - 1) l _ _ x.1 y.1 c.args.arena.now c.loop-from.arena c.if-from-to.false
          (subst (λ (k : ℕ). RightSoFar old new k c.args.arena.now c.loop-from.arena) x.0 inv.moved);
    }

pub returns : goal.returns
returns c =
    let old = c.args.old.now in let new = c.args.new.now in let inv = c.loop-from.invariant in
    let done = none_before inv.i (items old) (items new) c.requires.grown.laid.count inv.within _ _ inv.old_left inv.new_left (⊎_elim (λ x. inl x.1.0) (λ x. inr x.1.0) c.in-None.ensures.steps) in
    record { carried = λ k l. inv.moved.1 k (omega (arith, done)) l; beyond = inv.moved.2 }
