use Rattle.play.proofs.Plays.{heard_alike}
use Rattle.play.proofs.playing.play_both.Goals as goal

pub returns-clause-alike : goal.returns-clause-alike
returns-clause-alike g c = heard_alike g.G.Host.meaning g.H.Host.meaning c.args.first_calls.now c.args.second_calls.now c.args.first_session.now c.args.second_session.now c.args.first_arena.now c.args.second_arena.now
