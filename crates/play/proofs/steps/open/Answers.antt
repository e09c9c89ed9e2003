use Rattle.std.proofs.Common.{Ok, Err, rules}
use Rattle.play.proofs.Stepping.{opening_steps}
use Rattle.play.proofs.steps.open.Goals as goal

pub returns-in-None-clause-steps : goal.returns-in-None-clause-steps
returns-in-None-clause-steps g c stands =
    let e = c.in-Ok.ensures in
    opening_steps g.H.Host.meaning c.args.session.now c.open.new.self c.args.arena.now c.open.new.arena (search rules) stands c.args.wanted.now (Ok c.in-Ok.granted) e.after e.sound e.holds

pub returns-in-Err-clause-steps : goal.returns-in-Err-clause-steps
returns-in-Err-clause-steps g c stands =
    let e = c.in-Err.ensures in
    opening_steps g.H.Host.meaning c.args.session.now c.open.new.self c.args.arena.now c.open.new.arena (search rules) stands c.args.wanted.now (Err c.in-Err.fault) e.after e.sound e.holds
