use Rattle.std.proofs.Common.{rules}
use Rattle.play.proofs.Plays.{along_more, heard_all}
use Rattle.play.proofs.playing.play_to.Goals as goal

pub answer-requires : goal.answer-requires
answer-requires g c = c.loop-call.invariant.0

pub loop-call-preserved : goal.loop-call-preserved
loop-call-preserved g c = (
  c.answer.ensures.kept,
  λ ready. along_more g.H.Host.meaning g.L.Listener.heard c.args.session.now c.args.arena.now c.args.listener.now c.args.calls.now c.loop-call.call-index c.loop-call-test.true _ c.loop-call.slip c.answer.new.slip c.loop-call.session c.answer.new.session c.loop-call.arena c.answer.new.arena c.loop-call.listener c.answer.new.listener (search rules) c.answer.ensures.answered (c.loop-call.invariant.1 ready),
)

pub returns : goal.returns
returns g c ready = heard_all g.H.Host.meaning g.L.Listener.heard c.args.session.now c.args.arena.now c.args.listener.now c.args.calls.now c.loop-call.call-index c.loop-call-test.false c.loop-call.slip c.loop-call.session c.loop-call.arena c.loop-call.listener (c.loop-call.invariant.1 ready)
