use Rattle.std.proofs.Common.{◌≡◌, ℕ, cond, eqb, length, Ok, refl, ap, sym, ◌∙◌}
use Rattle.std.proofs.lemmas.Result.{err_from_is_err_and}
use Rattle.host.specs.Calls.{with_error}
use Rattle.mysql.specs.Refusals.{number_of}
use Rattle.session.proofs.Binds.{bound_refusal, bound_long}
use Rattle.session.proofs.Placing.{pairs_are, opened_due, opened_refused}
use Rattle.session.specs.Sessions.{is_open}
use Rattle.session.proofs.state.Session.bind_to.Goals as goal

pub returns-in_err-pairs : goal.returns-in_err-pairs
returns-in_err-pairs g c =
    let s = c.args.self.now in
    let m = g.H.Host.meaning s.host in
    let f = c.in_err-pairs.field-0.0 in
    let due = opened_refused (length c.args.arena.now) m.carries c.args.wanted.now m.columns f (is_open s) c.requires.unopened c.requires.short c.in_err-pairs.ensures in
    let seven : number_of f.refusal ≡ 7 = ap number_of (bound_refusal c.args.wanted.now 0 m.columns f c.in_err-pairs.ensures) in
    let p = err_from_is_err_and c.from_residual.result c.from_residual.ensures.1 in
    rw (p.1, p.2, due)
    (refl, record { opened = refl; shown = refl; table = refl; host = ap (λ (k : ℕ). with_error (cond (eqb k 9) f.host m.error) m) (sym seven); same_arena = refl })

pub returns-in_err-place_columns : goal.returns-in_err-place_columns
returns-in_err-place_columns g c =
    let s = c.args.self.now in
    let m = g.H.Host.meaning s.host in
    let n = length c.args.arena.now in
    let e : c.deref.result.now ≡ c.in_ok-pairs.pairs.items = c.deref.ensures.0 in
    let as_many : length c.deref.result.now ≡ length m.columns = ap length e ∙ bound_long c.args.wanted.now 0 m.columns c.in_ok-pairs.pairs.items c.in_ok-pairs.ensures in
    let w = c.in_err-place_columns.ensures as_many c.requires.short in
    let due = opened_due n m.carries c.args.wanted.now m.columns c.deref.result.now (is_open s) c.requires.unopened c.requires.short (c.in_ok-pairs.ensures ∙ ap Ok (sym e)) ∙ w.due in
    let p = err_from_is_err_and c.from_residual-in_err-place_columns.result c.from_residual-in_err-place_columns.ensures.1 in
    rw (p.1, p.2, due) (refl, record { opened = refl; shown = refl; table = refl; host = w.host; same_arena = w.same_arena })

pub returns : goal.returns
returns g c =
    let s = c.args.self.now in
    let m = g.H.Host.meaning s.host in
    let n = length c.args.arena.now in
    let qs = c.deref.result.now in
    let e : qs ≡ c.in_ok-pairs.pairs.items = c.deref.ensures.0 in
    let as_many : length qs ≡ length m.columns = ap length e ∙ bound_long c.args.wanted.now 0 m.columns c.in_ok-pairs.pairs.items c.in_ok-pairs.ensures in
    let w = c.in_ok-place_columns.ensures as_many c.requires.short in
    let due = opened_due n m.carries c.args.wanted.now m.columns qs (is_open s) c.requires.unopened c.requires.short (c.in_ok-pairs.ensures ∙ ap Ok (sym e)) ∙ w.due in
    rw due
    (record {
      table = w.table;
      bound_with = pairs_are qs n c.place_columns.new.spare.table w.table;
      host = w.host;
      opened = refl;
      no_row = refl;
      zeroed = w.zeroed;
      others = w.others;
    })
