use Rattle.std.proofs.Common.{length}
use Rattle.rows.specs.Dues.{opening}
use Rattle.session.proofs.Opened.{still_sound, still_holds, opening_says}
use Rattle.session.specs.Sessions.{is_open}
use Rattle.session.proofs.state.Session.open.Goals as goal

pub returns : goal.returns
returns g c =
    let s = c.args.self.now in let s' = c.bind_to.new.self in
    let m = g.H.Host.meaning s.host in let m' = g.H.Host.meaning s'.host in
    let a = c.args.arena.now in let a' = c.bind_to.new.arena in
    let due = opening (is_open s) (length a) m.carries c.args.wanted.now m.columns in
    record {
      after = c.bind_to.ensures;
      sound = still_sound m m' s s' a a' c.bind_to.result due (opening_says (is_open s) (length a) m.carries c.args.wanted.now m.columns) c.bind_to.ensures;
      holds = still_holds m m' s s' a a' c.bind_to.result due c.bind_to.ensures;
    }
