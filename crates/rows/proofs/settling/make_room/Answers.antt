use Rattle.std.proofs.Common.{true, false, inl, inr, refl, ap, ◌∙◌, rules}
use Rattle.std.proofs.lemmas.Result.{err_from_is_err_and}
use Rattle.layout.specs.declared.table.ColumnTable.{ColumnTable}
use Rattle.layout.specs.Tables.{items}
use Rattle.layout.specs.Moves.{Moved}
use Rattle.mysql.specs.Faults.{host_failed}
use Rattle.rows.proofs.Pairs.{not_both}
use Rattle.rows.proofs.Grows.{half, all_fit, is_granted, grew, grew_as}
use Rattle.rows.proofs.Tried.{failed_part, failed_fit, failed_bind, enlarged, enlarged_as}
use Rattle.rows.proofs.settling.make_room.Goals as goal

pub returns-in_err-fetch_missing-clause-came : goal.returns-in_err-fetch_missing-clause-came
returns-in_err-fetch_missing-clause-came g c = λ row in_row none.
    let m = g.H.Host.meaning c.args.host.now in
    let moved : Moved c.args.table.now c.args.arena.now c.grow.new.new c.grow.new.arena = search rules in
    absurd (c.in_err-fetch_missing.ensures.came row (half m row c.args.table.now c.args.arena.now in_row none c.grow.new.new c.grow.new.arena moved))

pub returns-then-not-fits-clause-came : goal.returns-then-not-fits-clause-came
returns-then-not-fits-clause-came g c = λ row in_row none.
    let m = g.H.Host.meaning c.args.host.now in
    let old = c.args.table.now in let a = c.args.arena.now in let new = c.grow.new.new in let b = c.grow.new.arena in
    let moved : Moved old a new b = search rules in
    let whole = c.in_ok-fetch_missing.ensures.came row (half m row old a in_row none new b moved) in
    absurd (c.fits.ensures.no c.if-not-fits.true (all_fit m row old a in_row none new b moved (g.H.Host.meaning c.fetch_missing.new.host) c.fetch_missing.new.new c.fetch_missing.new.arena c.fetch_missing.ensures.places whole))

pub returns-in_err-bind_host-clause-came : goal.returns-in_err-bind_host-clause-came
returns-in_err-bind_host-clause-came g c = λ row in_row none.
    let m = g.H.Host.meaning c.args.host.now in
    let old = c.args.table.now in let a = c.args.arena.now in let new = c.grow.new.new in let b = c.grow.new.arena in
    let moved : Moved old a new b = search rules in
    let whole = c.in_ok-fetch_missing.ensures.came row (half m row old a in_row none new b moved) in
    absurd (not_both false
    (is_granted m row old a in_row none new b moved (g.H.Host.meaning c.fetch_missing.new.host) c.fetch_missing.new.new c.fetch_missing.new.arena c.fetch_missing.ensures.places whole
    (g.H.Host.meaning c.bind_host.new.host) false c.in_err-bind_host.ensures.granted c.bind_host.ensures.after)
    refl)

pub returns-clause-came : goal.returns-clause-came
returns-clause-came g c = λ row in_row none.
    let m = g.H.Host.meaning c.args.host.now in
    let old = c.args.table.now in let a = c.args.arena.now in let new = c.grow.new.new in let b = c.grow.new.arena in
    let moved : Moved old a new b = search rules in
    let whole = c.in_ok-fetch_missing.ensures.came row (half m row old a in_row none new b moved) in
    let n = g.H.Host.meaning c.fetch_missing.new.host in let t = c.fetch_missing.new.new in let d = c.fetch_missing.new.arena in
    let tried = enlarged m old a new b moved n t d c.fetch_missing.ensures.places c.fetch_missing.ensures.host c.fetch_missing.ensures.beyond c.in_ok-fetch_missing.ensures.asked
    (g.H.Host.meaning c.bind_host.new.host) true c.in_ok-bind_host.ensures.granted c.bind_host.ensures.after refl (c.fits.ensures.yes c.if-not-fits.false) in
    grew_as m row old a c.fetch_missing.new.new c.take_from.new.self (g.H.Host.meaning c.bind_host.new.host) c.fetch_missing.new.arena (c.take_from.ensures.columns ∙ ap items c.bind_host.ensures.table) (c.take_from.ensures.room ∙ ap (λ (t : ColumnTable). t.room) c.bind_host.ensures.table)
    (grew m row old a in_row none new b moved (g.H.Host.meaning c.fetch_missing.new.host) c.fetch_missing.new.new c.fetch_missing.new.arena c.fetch_missing.ensures.places whole
    (g.H.Host.meaning c.bind_host.new.host) true c.in_ok-bind_host.ensures.granted c.bind_host.ensures.after tried)

pub returns-in_err-fetch_missing-clause-tried : goal.returns-in_err-fetch_missing-clause-tried
returns-in_err-fetch_missing-clause-tried g c =
    let m = g.H.Host.meaning c.args.host.now in
    let old = c.args.table.now in let a = c.args.arena.now in let new = c.grow.new.new in let b = c.grow.new.arena in
    let moved : Moved old a new b = search rules in
    let p = err_from_is_err_and c.from_residual-in_err-fetch_missing.result c.from_residual-in_err-fetch_missing.ensures.1 in
    rw (p.1, p.2) (refl, inr (failed_part m old a new b moved (g.H.Host.meaning c.fetch_missing.new.host) c.fetch_missing.new.new c.fetch_missing.new.arena c.fetch_missing.ensures.places c.fetch_missing.ensures.host c.fetch_missing.ensures.beyond _ c.in_err-fetch_missing.ensures.asked))

pub returns-then-not-fits-clause-tried : goal.returns-then-not-fits-clause-tried
returns-then-not-fits-clause-tried g c =
    let m = g.H.Host.meaning c.args.host.now in
    let old = c.args.table.now in let a = c.args.arena.now in let new = c.grow.new.new in let b = c.grow.new.arena in
    let moved : Moved old a new b = search rules in (
      refl,
      inr (failed_fit m old a new b moved (g.H.Host.meaning c.fetch_missing.new.host) c.fetch_missing.new.new c.fetch_missing.new.arena c.fetch_missing.ensures.places c.fetch_missing.ensures.host c.fetch_missing.ensures.beyond
          c.in_ok-fetch_missing.ensures.asked (c.fits.ensures.no c.if-not-fits.true) _ (c.host.ensures ∙ ap host_failed c.error_number.ensures)),
    )

pub returns-in_err-bind_host-clause-tried : goal.returns-in_err-bind_host-clause-tried
returns-in_err-bind_host-clause-tried g c =
    let m = g.H.Host.meaning c.args.host.now in
    let old = c.args.table.now in let a = c.args.arena.now in let new = c.grow.new.new in let b = c.grow.new.arena in
    let moved : Moved old a new b = search rules in
    let p = err_from_is_err_and c.from_residual-in_err-bind_host.result c.from_residual-in_err-bind_host.ensures.1 in
    rw (p.1, p.2) (
      refl,
      inr (failed_bind m old a new b moved (g.H.Host.meaning c.fetch_missing.new.host) c.fetch_missing.new.new c.fetch_missing.new.arena c.fetch_missing.ensures.places c.fetch_missing.ensures.host c.fetch_missing.ensures.beyond
          c.in_ok-fetch_missing.ensures.asked (g.H.Host.meaning c.bind_host.new.host) false c.in_err-bind_host.ensures.granted c.bind_host.ensures.after refl _ c.in_err-bind_host.ensures.failed),
    )

pub returns-clause-tried : goal.returns-clause-tried
returns-clause-tried g c =
    let m = g.H.Host.meaning c.args.host.now in
    let old = c.args.table.now in let a = c.args.arena.now in let new = c.grow.new.new in let b = c.grow.new.arena in
    let moved : Moved old a new b = search rules in
    let n = g.H.Host.meaning c.fetch_missing.new.host in let t = c.fetch_missing.new.new in let d = c.fetch_missing.new.arena in
    enlarged_as m old a t c.take_from.new.self (g.H.Host.meaning c.bind_host.new.host) d (c.take_from.ensures.columns ∙ ap items c.bind_host.ensures.table) (c.take_from.ensures.room ∙ ap (λ (t : ColumnTable). t.room) c.bind_host.ensures.table)
    (enlarged m old a new b moved n t d c.fetch_missing.ensures.places c.fetch_missing.ensures.host c.fetch_missing.ensures.beyond c.in_ok-fetch_missing.ensures.asked
    (g.H.Host.meaning c.bind_host.new.host) true c.in_ok-bind_host.ensures.granted c.bind_host.ensures.after refl (c.fits.ensures.yes c.if-not-fits.false))
