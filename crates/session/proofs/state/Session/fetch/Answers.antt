use Rattle.std.proofs.Common.{◌≡◌, length, is_some, Some, Ok, sym, refl, ap, ◌∙◌, subst}
use Rattle.std.proofs.lemmas.Result.{err_from_is_err_and}
use Rattle.std.specs.Option.{option_copied_mut}
use Rattle.rows.specs.Dues.{fetched}
use Rattle.rows.specs.Standing.{pairs_of}
use Rattle.rows.proofs.Pairs.{not_both}
use Rattle.session.specs.declared.state.Session.{Session}
use Rattle.session.specs.Sessions.{table_of, session_of, passes, IsSound, HoldsRow, Fetches, fetch_due}
use Rattle.session.proofs.Shows.{passed, not_passed, refused_past, parts, checked}
use Rattle.session.proofs.Kept.{after_sound, after_holds}
use Rattle.session.proofs.state.Session.fetch.Goals as goal

pub returns-in_err-check : goal.returns-in_err-check
returns-in_err-check g c =
    let s = c.args.self.now in let a = c.args.arena.now in
    let m = g.H.Host.meaning s.host in
    let o = c.in_ok-opened.opened.now in
    let is : s.opened ≡ Some o = sym c.as_mut.ensures.value ∙ ap option_copied_mut c.in_ok-opened.ensures.ok_part in
    let e = sym (checked s o is a (Ok tt)) ∙ sym c.check.ensures ∙ c.in_err-check.was in
    let r = err_from_is_err_and c.from_residual-in_err-check.result c.from_residual-in_err-check.ensures.1 in
    record {
      answer = λ sound. rw (r.1, r.2) (sym (refused_past s a tt (fetched (pairs_of (table_of s)) (length a) m.coming) c.in_err-check.field-0.0 e));
      refused = λ p. rw (r.1, r.2) (sym (refused_past s a tt (fetched (pairs_of (table_of s)) (length a) m.coming) c.in_err-check.field-0.0 e));
      unchecked = λ p. record { same = parts s o is; same_arena = refl };
      opened = sym (ap is_some is);
      after = λ sound p. not_both (passes s a) p (not_passed s a tt tt c.in_err-check.field-0.0 e);
      sound = λ sound. subst (IsSound g.H.Host.meaning) (sym (parts s o is)) sound;
      holds = λ sound holds. subst (λ (z : Session _). HoldsRow g.H.Host.meaning z a) (sym (parts s o is)) holds;
    }

pub returns : goal.returns
returns g c =
    let s = c.args.self.now in let a = c.args.arena.now in let a' = c.populate_row_buffers.new.arena in
    let o = c.in_ok-opened.opened.now in
    let is : s.opened ≡ Some o = sym c.as_mut.ensures.value ∙ ap option_copied_mut c.in_ok-opened.ensures.ok_part in
    let s' = session_of c.populate_row_buffers.new.host c.populate_row_buffers.new.self c.populate_row_buffers.new.reports c.populate_row_buffers.new.spare in
    let m = g.H.Host.meaning s.host in let m' = g.H.Host.meaning s'.host in
    let x = c.populate_row_buffers.result in
    let p = passed s a tt c.in_ok-check.field-0 (sym (checked s o is a (Ok tt)) ∙ sym c.check.ensures ∙ c.in_ok-check.was) in
    let first : IsSound g.H.Host.meaning s → IsSound g.H.Host.meaning (session_of s.host o s.reports s.spare) = subst (IsSound g.H.Host.meaning) (sym (parts s o is)) in
    let w : IsSound g.H.Host.meaning s → Fetches g.H.Host.meaning x s s' a a' =
    λ sound. subst (λ (z : Session _). Fetches g.H.Host.meaning x z s' a a') (parts s o is) (c.populate_row_buffers.ensures.after (first sound)) in
    record {
      answer = λ sound. c.populate_row_buffers.ensures.answer (first sound) ∙ ap (λ (z : Session _). fetch_due g.H.Host.meaning z a) (parts s o is);
      refused = λ q. not_both (passes s a) p q;
      unchecked = λ q. not_both (passes s a) p q;
      opened = sym (ap is_some is);
      after = λ sound q. w sound;
      sound = λ sound. after_sound m m' s s' sound a p a' m.coming x (w sound);
      holds = λ sound holds. after_holds m m' s s' a a' m.coming x (w sound);
    }
