use Rattle.std.proofs.Common.{◌≡◌, [], length, Ok, ap, rules}
use Rattle.going.proofs.Opened.{due_of_opening}
use Rattle.going.proofs.Reached.{since_opening}
use Rattle.outlets.specs.Events.{CountsDue}
use Rattle.outlets.proofs.count.count_rows.Goals as goal

pub returns-in-Ok-clause-counts : goal.returns-in-Ok-clause-counts
returns-in-Ok-clause-counts g c =
    let a = c.args.arena.now in let a' = c.open.new.arena in
    let long : length a' ≡ length a = search rules in
    let counts = c.count_fetches-counts in
    due_of_opening g.H.Host.meaning c.new-session.result c.open.new.self a a' long (λ due n coming. CountsDue due n coming (Ok counts.result)) c.args.host c.in-Ok.slip []
    c.new-session.ensures.host c.new-session.ensures.unopened c.in-Ok.ensures.after (ap Ok counts.ensures.counts)

pub returns-in-Ok-clause-arena : goal.returns-in-Ok-clause-arena
returns-in-Ok-clause-arena g c =
    let a = c.args.arena.now in let a' = c.open.new.arena in
    let long : length a' ≡ length a = search rules in
    since_opening g.H.Host.meaning c.new-session.result c.open.new.self a a' _ long c.in-Ok.slip [] c.in-Ok.ensures.after c.args.host
    c.new-session.ensures.host c.new-session.ensures.unopened c.count_fetches-counts.ensures.arena
