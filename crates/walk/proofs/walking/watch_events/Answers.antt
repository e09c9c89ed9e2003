use Rattle.std.proofs.Common.{Ok, refl, ap}
use Rattle.going.proofs.Fetched.{shorter}
use Rattle.going.proofs.Reached.{on, untouched}
use Rattle.walk.proofs.Saying.{row_told, refusal_told, all_told}
use Rattle.walk.proofs.walking.watch_events.Goals as goal

pub watch_row-requires : goal.watch_row-requires
watch_row-requires g c = (c.in-Ok-Row.ensures.goes _ _ _ c.loop-session.invariant.0.going).going.now

pub loop-session-preserved-in-Ok-Row : goal.loop-session-preserved-in-Ok-Row
loop-session-preserved-in-Ok-Row g c =
    let so_far = c.loop-session.invariant.0 in
    let left = c.in-Ok-Row.ensures.goes _ _ _ so_far.going in (
      row_told _ g.W.Watch.heard _ _ _ _ _ _ _ _ _ _ so_far _ left (ap Ok c.in-Ok-Row.field-0-is) c.watch_row.ensures,
      on _ _ _ _ _ _ _ _ _ _ c.loop-session.invariant.1 _ left,
    )

pub loop-session-preserved : goal.loop-session-preserved
loop-session-preserved g c =
    let so_far = c.loop-session.invariant.0 in
    let left = c.in-Err.ensures.goes _ _ _ so_far.going in (
      refusal_told _ g.W.Watch.heard _ _ _ _ _ _ _ _ _ _ so_far _ left c.in-Err.fault refl c.refused.ensures,
      on _ _ _ _ _ _ _ _ _ _ c.loop-session.invariant.1 _ left,
    )

pub loop-session-smaller-in-Ok-Row : goal.loop-session-smaller-in-Ok-Row
loop-session-smaller-in-Ok-Row g c = shorter ((c.in-Ok-Row.ensures.goes _ _ _ c.loop-session.invariant.0.going).row (ap Ok c.in-Ok-Row.field-0-is)).next

pub loop-session-smaller : goal.loop-session-smaller
loop-session-smaller g c = shorter ((c.in-Err.ensures.goes _ _ _ c.loop-session.invariant.0.going).refused c.in-Err.fault refl).next

pub returns-in-Ok-End-clause-said : goal.returns-in-Ok-End-clause-said
returns-in-Ok-End-clause-said g c =
    let so_far = c.loop-session.invariant.0 in
    all_told _ g.W.Watch.heard _ _ _ _ _ _ _ _ _ c.end.new.self so_far _ (c.in-Ok-End.ensures.goes _ _ _ so_far.going) (ap Ok c.in-Ok-End.field-0-is) (λ said. g.W.Watch.heard c.end.new.self said) c.end.ensures

pub returns-in-Ok-End-clause-arena : goal.returns-in-Ok-End-clause-arena
returns-in-Ok-End-clause-arena g c =
    let so_far = c.loop-session.invariant in
    untouched _ _ _ _ _ _ _ _ (on _ _ _ _ _ _ _ _ _ _ so_far.1 _ (c.in-Ok-End.ensures.goes _ _ _ so_far.0.going))
