use Rattle.std.proofs.Common.{Ok, refl, sym, ap, ◌∙◌}
use Rattle.going.proofs.Fetched.{shorter}
use Rattle.going.proofs.Reached.{on, untouched}
use Rattle.outlets.proofs.Counting.{row_counted, failure_counted, refusal_counted, counted_all}
use Rattle.outlets.proofs.count.count_fetches.Goals as goal

pub loop-counts-preserved-in-Ok-Row : goal.loop-counts-preserved-in-Ok-Row
loop-counts-preserved-in-Ok-Row g c =
    let so_far = c.loop-counts.invariant.0 in
    let left = c.in-Ok-Row.ensures.goes _ _ _ so_far.going in
    (row_counted _ _ _ _ c.loop-counts.counts _ _ _ _ so_far _ left (ap Ok c.in-Ok-Row.field-0-is) _ c.saturating_add.ensures, on _ _ _ _ _ _ _ _ _ _ c.loop-counts.invariant.1 _ left)

pub loop-counts-preserved-in-Some : goal.loop-counts-preserved-in-Some
loop-counts-preserved-in-Some g c =
    let so_far = c.loop-counts.invariant.0 in
    let left = c.in-Err.ensures.goes _ _ _ so_far.going in
    (failure_counted _ _ _ _ c.loop-counts.counts _ _ _ _ so_far _ left c.in-Err.fault refl c.in-Some.field-0 (sym c.host_error.ensures ∙ c.in-Some.is) _ c.saturating_add-in-Some.ensures, on _ _ _ _ _ _ _ _ _ _ c.loop-counts.invariant.1 _ left)

pub loop-counts-preserved : goal.loop-counts-preserved
loop-counts-preserved g c =
    let so_far = c.loop-counts.invariant.0 in
    let left = c.in-Err.ensures.goes _ _ _ so_far.going in
    (refusal_counted _ _ _ _ c.loop-counts.counts _ _ _ _ so_far _ left c.in-Err.fault refl (sym c.host_error.ensures ∙ c.in-None.is) _ c.saturating_add-in-None.ensures, on _ _ _ _ _ _ _ _ _ _ c.loop-counts.invariant.1 _ left)

pub loop-counts-smaller-in-Ok-Row : goal.loop-counts-smaller-in-Ok-Row
loop-counts-smaller-in-Ok-Row g c = shorter ((c.in-Ok-Row.ensures.goes _ _ _ c.loop-counts.invariant.0.going).row (ap Ok c.in-Ok-Row.field-0-is)).next

pub loop-counts-smaller-in-Some : goal.loop-counts-smaller-in-Some
loop-counts-smaller-in-Some g c = shorter ((c.in-Err.ensures.goes _ _ _ c.loop-counts.invariant.0.going).refused c.in-Err.fault refl).next

pub loop-counts-smaller : goal.loop-counts-smaller
loop-counts-smaller g c = shorter ((c.in-Err.ensures.goes _ _ _ c.loop-counts.invariant.0.going).refused c.in-Err.fault refl).next

pub returns-in-Ok-End-clause-counts : goal.returns-in-Ok-End-clause-counts
returns-in-Ok-End-clause-counts g c =
    let so_far = c.loop-counts.invariant.0 in
    counted_all _ _ _ _ _ _ _ _ _ so_far _ (c.in-Ok-End.ensures.goes _ _ _ so_far.going) (ap Ok c.in-Ok-End.field-0-is)

pub returns-in-Ok-End-clause-arena : goal.returns-in-Ok-End-clause-arena
returns-in-Ok-End-clause-arena g c =
    let so_far = c.loop-counts.invariant in
    untouched _ _ _ _ _ _ _ _ (on _ _ _ _ _ _ _ _ _ _ so_far.1 _ (c.in-Ok-End.ensures.goes _ _ _ so_far.0.going))
