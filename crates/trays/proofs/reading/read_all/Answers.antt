use Rattle.std.proofs.Common.{◌≡◌, length, rules, []}
use Rattle.mysql.specs.Answers.{next}
use Rattle.going.proofs.Opened.{due_of_opening}
use Rattle.going.proofs.Reached.{since_opening}
use Rattle.trays.specs.Fields.{fields_of}
use Rattle.trays.specs.Sums.{SumsOf}
use Rattle.trays.proofs.reading.read_all.Goals as goal

pub returns-in-Ok-clause-sums : goal.returns-in-Ok-clause-sums
returns-in-Ok-clause-sums g c =
    let a = c.args.arena.now in let a' = c.open.new.arena in
    let long : length a' ≡ length a = search rules in
    let sums = c.add_up-sums in
    due_of_opening g.H.Host.meaning c.new-session.result c.open.new.self a a' long (λ due n coming. SumsOf (next due (λ pairs. fields_of pairs n coming)) sums.result) c.args.host c.in-Ok.slip []
    c.new-session.ensures.host c.new-session.ensures.unopened c.in-Ok.ensures.after sums.ensures.sums

pub returns-in-Ok-clause-arena : goal.returns-in-Ok-clause-arena
returns-in-Ok-clause-arena g c =
    let a = c.args.arena.now in let a' = c.open.new.arena in
    let long : length a' ≡ length a = search rules in
    since_opening g.H.Host.meaning c.new-session.result c.open.new.self a a' _ long c.in-Ok.slip [] c.in-Ok.ensures.after c.args.host
    c.new-session.ensures.host c.new-session.ensures.unopened c.add_up-sums.ensures.arena
