use Rattle.std.proofs.Common.{◌≡◌, Bool, false, None, Err, Ok, Result, ◌∙◌, sym}
use Rattle.std.specs.Result.{is_ok, result_ok}
use Rattle.tally.proofs.Summed.{no_count}
use Rattle.tally.proofs.count.tally.Goals as goal

-- a bind of which nothing is left was refused
refused : {X E : Type 0} (r : Result X E) (b : Bool) → result_ok r ≡ None → is_ok r ≡ b → false ≡ b
refused (Ok x) b e o = cc
refused (Err f) b e o = o

pub returns-in_err-ok : goal.returns-in_err-ok
returns-in_err-ok g c =
    let bind = c.bind_all in
    let no = refused bind.result _ (sym c.ok.ensures.value ∙ c.in_err-ok.was) bind.ensures.granted in
    rw (c.from_residual.ensures) (no_count (g.H.Host.meaning c.args.host.now) _ c.deref.result.now (c.deref.ensures.0 ∙ c.own_records-records.ensures) bind.ensures.after no)
