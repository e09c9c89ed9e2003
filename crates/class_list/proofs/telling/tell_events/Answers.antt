use Rattle.std.proofs.Common.{Ok, refl, ap}
use Rattle.going.proofs.Reached.{on}
use Rattle.class_list.proofs.Listing.{row_told, refusal_told}
use Rattle.class_list.proofs.telling.tell_events.Goals as goal

pub loop-session-preserved-in-Ok-Row : goal.loop-session-preserved-in-Ok-Row
loop-session-preserved-in-Ok-Row g c =
    let so_far = c.loop-session.invariant in
    let left = c.in-Ok-Row.ensures.goes _ _ _ so_far.0.going in
    (row_told _ g.L.Listener.heard _ _ _ _ _ _ _ _ _ _ so_far.0 _ left (ap Ok c.in-Ok-Row.field-0-is) c.tell_row.ensures, on _ _ _ _ _ _ _ _ _ _ so_far.1 _ left)

pub loop-session-preserved : goal.loop-session-preserved
loop-session-preserved g c =
    let so_far = c.loop-session.invariant in
    let left = c.in-Err.ensures.goes _ _ _ so_far.0.going in
    (refusal_told _ g.L.Listener.heard _ _ _ _ _ _ _ _ _ _ so_far.0 _ left c.in-Err.fault refl c.tell_refusal.ensures, on _ _ _ _ _ _ _ _ _ _ so_far.1 _ left)
