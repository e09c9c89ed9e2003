use Rattle.std.proofs.Common.{Ok, Err, w32, refl, sym, ap, ◌∙◌}
use Rattle.std.proofs.lemmas.Int.{to_z-of_z}
use Rattle.std.proofs.lemmas.Result.{err_from_is_err_and}
use Rattle.going.proofs.Fetched.{shorter}
use Rattle.outlets.specs.Outlets.{some_if}
use Rattle.outlets.proofs.Searching.{another_class, no_row, not_found, found}
use Rattle.outlets.proofs.find.find.Goals as goal

pub is_of_class-requires : goal.is_of_class-requires
is_of_class-requires g c = (c.in-Ok-Row.ensures.goes _ _ _ c.loop-session.invariant.going).going.now

pub copy_outlet-requires : goal.copy_outlet-requires
copy_outlet-requires g c = (c.in-Ok-Row.ensures.goes _ _ _ c.loop-session.invariant.going).going.now

pub loop-session-smaller : goal.loop-session-smaller
loop-session-smaller g c = shorter ((c.in-Err.ensures.goes _ _ _ c.loop-session.invariant.going).refused c.in-Err.field-0 refl).next

pub loop-session-smaller-else-is_of_class : goal.loop-session-smaller-else-is_of_class
loop-session-smaller-else-is_of_class g c = shorter ((c.in-Ok-Row.ensures.goes _ _ _ c.loop-session.invariant.going).row (ap Ok c.in-Ok-Row.field-0-is)).next

pub loop-session-preserved : goal.loop-session-preserved
loop-session-preserved g c =
    let so_far = c.loop-session.invariant in
    no_row _ _ _ _ _ _ _ _ _ _ _ so_far _ (c.in-Err.ensures.goes _ _ _ so_far.going) c.in-Err.field-0 refl

pub loop-session-preserved-else-is_of_class : goal.loop-session-preserved-else-is_of_class
loop-session-preserved-else-is_of_class g c =
    let so_far = c.loop-session.invariant in
    another_class _ _ _ _ _ _ _ _ _ _ _ so_far _ (c.in-Ok-Row.ensures.goes _ _ _ so_far.going) (ap Ok c.in-Ok-Row.field-0-is) (c.is_of_class.ensures.no c.if-is_of_class.false)

pub returns-in-Ok-End-clause-found : goal.returns-in-Ok-End-clause-found
returns-in-Ok-End-clause-found g c =
    let so_far = c.loop-session.invariant in
    rw (to_z-of_z w32 c.args.class c.ranges.class) at
    (not_found _ _ _ _ _ _ _ _ _ _ _ so_far _ (c.in-Ok-End.ensures.goes _ _ _ so_far.going) (ap Ok c.in-Ok-End.field-0-is))

pub returns-then-is_of_class-clause-found : goal.returns-then-is_of_class-clause-found
returns-then-is_of_class-clause-found g c =
    let so_far = c.loop-session.invariant in
    rw (to_z-of_z w32 c.args.class c.ranges.class) at
    (found _ _ _ _ _ _ _ _ _ _ _ so_far _ (c.in-Ok-Row.ensures.goes _ _ _ so_far.going) (ap Ok c.in-Ok-Row.field-0-is) (c.is_of_class.ensures.yes c.if-is_of_class.true)
    c.copy_outlet.result _ _ (sym (ap some_if c.in_ok-copy_outlet-in-Ok-Row.was)) c.copy_outlet.ensures.copied)

pub returns-in_err-copy_outlet-in-Ok-Row-clause-found : goal.returns-in_err-copy_outlet-in-Ok-Row-clause-found
returns-in_err-copy_outlet-in-Ok-Row-clause-found g c =
    let so_far = c.loop-session.invariant in
    let same = err_from_is_err_and c.from_residual.result c.from_residual.ensures.1 in
    rw (to_z-of_z w32 c.args.class c.ranges.class) at
    (found _ _ _ _ _ _ _ _ _ _ _ so_far _ (c.in-Ok-Row.ensures.goes _ _ _ so_far.going) (ap Ok c.in-Ok-Row.field-0-is) (c.is_of_class.ensures.yes c.if-is_of_class.true)
    c.copy_outlet.result c.from_residual.result _ (same.1 ∙ ap Err same.2 ∙ sym (ap some_if c.in_err-copy_outlet-in-Ok-Row.was)) c.copy_outlet.ensures.copied)
