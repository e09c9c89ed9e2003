use Rattle.std.proofs.Common.{◌≡◌, length, rules}
use Rattle.going.proofs.Fetched.{left}
use Rattle.going.proofs.fetch_next.Goals as goal

pub returns-clause-goes : goal.returns-clause-goes
returns-clause-goes g c m pairs n going =
    let s' = c.fetch.new.self in let a' = c.fetch.new.arena in
    let long : length a' ≡ length c.args.arena.now = search rules in
    let e = c.fetch.ensures in let now = going.now in
    left g.H.Host.meaning m pairs n c.args.session.now s' c.args.arena.now a' long going (e.sound now.sound) (e.holds now.sound now.holds) c.fetch.result (e.answer now.sound) (e.after now.sound now.ready)
