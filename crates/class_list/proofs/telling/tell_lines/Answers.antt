use Rattle.std.proofs.Common.{◌≡◌, ◌≤◌, length, rules, arith}
use Rattle.std.proofs.lemmas.Bool.{le-ltb}
use Rattle.going.proofs.Reached.{since_opening}
use Rattle.class_list.proofs.telling.tell_lines.Goals as goal

pub returns-in-Ok-clause-arena : goal.returns-in-Ok-clause-arena
returns-in-Ok-clause-arena g c =
    let means = g.H.Host.meaning in
    let a = c.args.arena.now in let a' = c.open.new.arena in
    let long : length a' ≡ length a = search rules in
    let many : 3 ≤ length (means c.args.host).columns = omega (arith, c.column_count-columns.ensures) in
    rw (le-ltb (length (means c.args.host).columns) 3 many)
    (since_opening means c.new-session.result c.open.new.self a a' _ long c.in-Ok.slip c.args.wanted.now c.in-Ok.ensures.after c.args.host
    c.new-session.ensures.host c.new-session.ensures.unopened c.tell_events.ensures.arena)
