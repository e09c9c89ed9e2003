use Rattle.std.proofs.Common.{◌≡◌, [], length, w32, rules}
use Rattle.std.proofs.lemmas.Int.{to_z-of_z}
use Rattle.rows.specs.Standing.{pairs_of}
use Rattle.session.specs.Sessions.{table_of}
use Rattle.going.proofs.Opened.{due_of_opening}
use Rattle.going.proofs.Reached.{before_opening, fresh}
use Rattle.outlets.specs.Outlets.{OutletDue}
use Rattle.outlets.proofs.Searching.{from_opening}
use Rattle.outlets.proofs.find.find_outlet.Goals as goal

pub find-found-requires-clause-fresh : goal.find-found-requires-clause-fresh
find-found-requires-clause-fresh g c =
    let a = c.args.arena.now in let a' = c.open.new.arena in
    let long : length a' ≡ length a = search rules in
    fresh g.H.Host.meaning c.new-session.result c.open.new.self a a' a' long c.in-Ok.slip [] c.in-Ok.ensures.after

pub returns-in-Ok-clause-found : goal.returns-in-Ok-clause-found
returns-in-Ok-clause-found g c =
    let means = g.H.Host.meaning in let s = c.open.new.self in
    let a = c.args.arena.now in let a' = c.open.new.arena in let a'' = c.find-found.new.arena in
    let long : length a' ≡ length a = search rules in
    let found = rw (to_z-of_z w32 c.args.class c.ranges.class) at c.find-found.ensures.found in
    let into = c.args.into.now in let into' = c.find-found.new.into in
    due_of_opening means c.new-session.result s a a' long (λ due n coming. OutletDue due a a'' c.args.class coming into c.find-found.result into')
    c.args.host c.in-Ok.slip [] c.new-session.ensures.host c.new-session.ensures.unopened c.in-Ok.ensures.after
    (from_opening (pairs_of (table_of s)) c.args.class (means s.host).coming a a' a'' into c.find-found.result into' long
    (before_opening means c.new-session.result s a a' a'' long c.in-Ok.slip [] c.in-Ok.ensures.after) found)
