use Rattle.std.proofs.Common.{Ok, Err, ap, ◌∙◌, sym, subst}
use Rattle.std.proofs.lemmas.Result.{err_from_is_err_and}
use Rattle.mysql.specs.declared.fault.Fault.{Fault}
use Rattle.mysql.specs.Faults.{at_column}
use Rattle.layout.specs.declared.table.ColumnTable.{ColumnTable}
use Rattle.layout.proofs.Fitting.{plain_fits, plain_keeps}
use Rattle.rows.specs.Settling.{Refuses}
use Rattle.rows.proofs.Settles.{in_row, refuses_lost, refuses_long, shows_as_it_is, shows_grown}
use Rattle.rows.proofs.Handles.{handled_fit, handled_lost, handled_over}
use Rattle.rows.proofs.settling.populate_dynamic_buffers.Goals as goal

pub returns-then-note_all : goal.returns-then-note_all
returns-then-note_all g c =
    let u = c.note_all.new.self in
    let plain = (c.note_all.ensures.plain.0 c.if-note_all.true).1 in
    record {
      fit = plain_fits u plain;
      handled = handled_fit (g.H.Host.meaning c.args.host.now) c.args.table.now c.args.reports.now c.args.arena.now u c.note_all.ensures.noted c.note_all.ensures.places (plain_keeps u plain) (plain_fits u plain);
      came = λ row got.
          let m = g.H.Host.meaning c.args.host.now in
          let t = c.args.table.now in let rs = c.args.reports.now in let a = c.args.arena.now in
          let written = c.note_all.ensures.noted in
          shows_as_it_is m row t rs a got u written c.note_all.ensures.places (plain_keeps u plain) (plain_fits u plain);
    }

pub returns-in-Some : goal.returns-in-Some
returns-in-Some g c = record {
  fit = tt;
  handled = handled_lost (g.H.Host.meaning c.args.host.now) c.args.table.now c.args.reports.now c.args.arena.now c.note_all.new.self c.note_all.ensures.noted c.note_all.ensures.places c.in-Some.k c.at.result c.in-Some.ensures (c.at.ensures ∙ ap (λ (f : Fault). at_column f c.in-Some.k) c.new.ensures);
  came = λ row got.
      let m = g.H.Host.meaning c.args.host.now in
      let t = c.args.table.now in let rs = c.args.reports.now in let a = c.args.arena.now in
      let u = c.note_all.new.self in
      let written = c.note_all.ensures.noted in
      refuses_lost m row t rs a got u written c.note_all.ensures.places c.in-Some.k c.at.result c.in-Some.ensures (c.at.ensures ∙ ap (λ (f : Fault). at_column f c.in-Some.k) c.new.ensures);
}

pub returns-else-not-fits : goal.returns-else-not-fits
returns-else-not-fits g c = record {
  fit = c.fits.ensures.yes c.if-not-fits.false;
  handled = handled_fit (g.H.Host.meaning c.args.host.now) c.args.table.now c.args.reports.now c.args.arena.now c.note_all.new.self c.note_all.ensures.noted c.note_all.ensures.places c.in_default.ensures (c.fits.ensures.yes c.if-not-fits.false);
  came = λ row got.
      let m = g.H.Host.meaning c.args.host.now in
      let t = c.args.table.now in let rs = c.args.reports.now in let a = c.args.arena.now in
      let u = c.note_all.new.self in
      let written = c.note_all.ensures.noted in
      shows_as_it_is m row t rs a got u written c.note_all.ensures.places c.in_default.ensures (c.fits.ensures.yes c.if-not-fits.false);
}

pub returns-in_ok-make_room-clause-came : goal.returns-in_ok-make_room-clause-came
returns-in_ok-make_room-clause-came g c = λ row got.
    let m = g.H.Host.meaning c.args.host.now in
    let t = c.args.table.now in let rs = c.args.reports.now in let a = c.args.arena.now in
    let u = c.note_all.new.self in
    let written = c.note_all.ensures.noted in
    let grew = c.in_ok-make_room.ensures.came row (in_row m row t rs a got u written c.note_all.ensures.places) c.in_default.ensures in
    shows_grown m row t rs a got u written c.note_all.ensures.places c.in_default.ensures c.make_room.new.table (g.H.Host.meaning c.make_room.new.host) c.make_room.new.arena grew

pub returns-in_err-make_room : goal.returns-in_err-make_room
returns-in_err-make_room g c =
    let p = err_from_is_err_and c.from_residual.result c.from_residual.ensures.1 in
    let m = g.H.Host.meaning c.args.host.now in
    let t = c.args.table.now in let rs = c.args.reports.now in let a = c.args.arena.now in
    let u = c.note_all.new.self in
    rw (p.1, p.2)
    (record {
      fit = tt;
      handled = handled_over m t rs a u c.note_all.ensures.noted c.note_all.ensures.places c.in_default.ensures (c.fits.ensures.no c.if-not-fits.true) (Err c.in_err-make_room.field-0.0) (g.H.Host.meaning c.make_room.new.host) c.make_room.new.table c.make_room.new.arena c.in_err-make_room.ensures.tried;
      came = λ row got.
          let written = c.note_all.ensures.noted in
          let stayed = c.in_err-make_room.ensures.came row (in_row m row t rs a got u written c.note_all.ensures.places) c.in_default.ensures in
          subst (λ (x : ColumnTable). Refuses m row t rs a c.in_err-make_room.field-0.0 (g.H.Host.meaning c.make_room.new.host) x c.make_room.new.arena) (sym stayed.0) (refuses_long m row t rs a got u written c.note_all.ensures.places c.in_default.ensures _ (g.H.Host.meaning c.make_room.new.host) c.make_room.new.arena stayed.1);
    })

pub returns-in_ok-make_room-clause-handled : goal.returns-in_ok-make_room-clause-handled
returns-in_ok-make_room-clause-handled g c =
    handled_over (g.H.Host.meaning c.args.host.now) c.args.table.now c.args.reports.now c.args.arena.now c.note_all.new.self c.note_all.ensures.noted c.note_all.ensures.places c.in_default.ensures (c.fits.ensures.no c.if-not-fits.true)
    (Ok tt) (g.H.Host.meaning c.make_room.new.host) c.make_room.new.table c.make_room.new.arena c.in_ok-make_room.ensures.tried
