use Rattle.std.proofs.Common.{◌≡◌, length, rules}
use Rattle.going.proofs.Reached.{since_opening}
use Rattle.walk.proofs.walking.walk.Goals as goal

pub returns-in-Ok-clause-arena : goal.returns-in-Ok-clause-arena
returns-in-Ok-clause-arena g c =
    let a = c.args.arena.now in let a' = c.open.new.arena in
    let long : length a' ≡ length a = search rules in
    since_opening g.H.Host.meaning c.new-session.result c.open.new.self a a' _ long c.in-Ok.slip c.args.wanted.now c.in-Ok.ensures.after c.args.host
    c.new-session.ensures.host c.new-session.ensures.unopened c.watch_events.ensures.arena
