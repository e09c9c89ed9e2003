use Rattle.std.proofs.Common.{◌≡◌, true, is_some}
use Rattle.session.specs.Sessions.{is_open}
use Rattle.play.specs.Plays.{IsReady}
use Rattle.play.proofs.Plays.{Along}
use Rattle.play.proofs.playing.play_to.Given as goal

-- a slip is held by an opened session alone; and the calls so far
abbrev pub invariant-loop-call : goal.invariant-loop-call
invariant-loop-call g l =
    let means = g.H.Host.meaning in
    (is_some l.slip ≡ true → is_open l.session ≡ true)
    × (IsReady means l.initial.session l.initial.arena → Along means g.L.Listener.heard l.initial.session l.initial.arena l.initial.listener l.calls l.call-index l.slip l.session l.arena l.listener)
