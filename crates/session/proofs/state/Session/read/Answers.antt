use Rattle.std.proofs.Common.{◌≡◌, Some, Ok, sym, ap, ◌∙◌}
use Rattle.std.proofs.lemmas.Result.{err_from_is_err_and}
use Rattle.std.specs.Option.{option_copied}
use Rattle.rows.proofs.Pairs.{not_both}
use Rattle.session.specs.Sessions.{is_shown, table_of, passes, looked}
use Rattle.session.proofs.Shows.{passed, not_passed, refused_past, checked, looked_is, reads_row}
use Rattle.session.proofs.state.Session.read.Goals as goal

pub returns-in_err-check : goal.returns-in_err-check
returns-in_err-check g c =
    let s = c.args.self.now in let a = c.args.arena.now in let k = c.args.column in
    let o = c.in_ok-opened.opened.now in
    let is : s.opened ≡ Some o = sym c.as_ref.ensures.value ∙ ap option_copied c.in_ok-opened.ensures.ok_part in
    let e = sym (checked s o is a (Ok tt)) ∙ sym c.check.ensures ∙ c.in_err-check.was in
    let r = err_from_is_err_and c.from_residual-in_err-check.result c.from_residual-in_err-check.ensures.1 in
    record {
      exact = rw (r.1, r.2) (sym (refused_past s a tt (looked (is_shown s) (table_of s) a k) c.in_err-check.field-0.0 e));
      row = λ sound holds p. not_both (passes s a) p (not_passed s a tt tt c.in_err-check.field-0.0 e);
    }

pub returns : goal.returns
returns g c =
    let s = c.args.self.now in let a = c.args.arena.now in let k = c.args.column in
    let o = c.in_ok-opened.opened.now in
    let is : s.opened ≡ Some o = sym c.as_ref.ensures.value ∙ ap option_copied c.in_ok-opened.ensures.ok_part in
    let p = passed s a tt c.in_ok-check.field-0 (sym (checked s o is a (Ok tt)) ∙ sym c.check.ensures ∙ c.in_ok-check.was) in
    let e = c.look.ensures ∙ looked_is s o is a k p in
    record { exact = e; row = λ sound holds q. e ∙ reads_row (g.H.Host.meaning s.host) s a k sound holds q }
