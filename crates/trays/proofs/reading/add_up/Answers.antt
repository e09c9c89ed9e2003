use Rattle.std.proofs.Common.{◌≡◌, ◌++◌, List, ◌∷◌, [], Some, None, Ok, Option, ap, ◌∙◌, subst, rules}
use Rattle.readings.specs.declared.value.MysqlValue.{MysqlValue}
use Rattle.session.specs.declared.state.Value.{Value}
use Rattle.going.proofs.Fetched.{shorter}
use Rattle.going.proofs.Reached.{on, untouched}
use Rattle.trays.specs.Sums.{AddsUp}
use Rattle.trays.proofs.Adding.{row_added, not_read, all_added, event_refused}
use Rattle.trays.proofs.reading.add_up.Goals as goal

pub returns-in_err-fetch_next-clause-host : goal.returns-in_err-fetch_next-clause-host
returns-in_err-fetch_next-clause-host g c = (c.fetch_next.ensures.goes _ _ _ c.loop-sums.invariant.0.going).going.kept

pub returns-in-End-clause-host : goal.returns-in-End-clause-host
returns-in-End-clause-host g c = (c.fetch_next.ensures.goes _ _ _ c.loop-sums.invariant.0.going).going.kept

pub returns-in_err-shown-in-Row-clause-host : goal.returns-in_err-shown-in-Row-clause-host
returns-in_err-shown-in-Row-clause-host g c = (c.fetch_next.ensures.goes _ _ _ c.loop-sums.invariant.0.going).going.kept

pub returns-in_err-fetch_next-clause-sums : goal.returns-in_err-fetch_next-clause-sums
returns-in_err-fetch_next-clause-sums g c =
    let so_far = c.loop-sums.invariant.0 in
    let due = event_refused _ _ _ _ _ _ _ _ _ so_far _ (c.fetch_next.ensures.goes _ _ _ so_far.going) _ c.in_err-fetch_next.was in search rules

pub returns-in-End-clause-sums : goal.returns-in-End-clause-sums
returns-in-End-clause-sums g c =
    let so_far = c.loop-sums.invariant.0 in
    all_added _ _ _ _ _ _ _ _ _ so_far _ (c.fetch_next.ensures.goes _ _ _ so_far.going) (c.in_ok-fetch_next.was ∙ ap Ok c.in-End.is)

pub returns-in_err-shown-in-Row-clause-sums : goal.returns-in_err-shown-in-Row-clause-sums
returns-in_err-shown-in-Row-clause-sums g c =
    let so_far = c.loop-sums.invariant.0 in
    let w = c.fetch_next.ensures.goes _ _ _ so_far.going in let now = w.going.now in
    let due = not_read _ _ _ _ _ _ _ _ _ so_far _ w (c.in_ok-fetch_next.was ∙ ap Ok c.in-Row.is) _ (rw c.in_err-shown-in-Row.was at (c.read.ensures.row now.sound now.holds now.ready)) in search rules

pub loop-sums-smaller-in-Some : goal.loop-sums-smaller-in-Some
loop-sums-smaller-in-Some g c = shorter ((c.fetch_next.ensures.goes _ _ _ c.loop-sums.invariant.0.going).row (c.in_ok-fetch_next.was ∙ ap Ok c.in-Row.is)).next

pub loop-sums-smaller : goal.loop-sums-smaller
loop-sums-smaller g c = shorter ((c.fetch_next.ensures.goes _ _ _ c.loop-sums.invariant.0.going).row (c.in_ok-fetch_next.was ∙ ap Ok c.in-Row.is)).next

pub loop-sums-preserved-in-Some : goal.loop-sums-preserved-in-Some
loop-sums-preserved-in-Some g c =
    let so_far = c.loop-sums.invariant.0 in
    let w = c.fetch_next.ensures.goes _ _ _ so_far.going in let now = w.going.now in
    let shown_is : c.read.result ≡ Ok (Some c.in-Some.shown) = c.in_ok-shown-in-Row.was ∙ ap (λ (x : Option Value). Ok x) c.in-Some.is in
    let value = c.in-Some.shown.value in
    let bytes : c.as_bytes.result.now ≡ value.raw.now = c.as_bytes.ensures ∙ ap (λ (x : MysqlValue). x.raw.now) c.value.ensures in (
      row_added _ _ _ _ c.loop-sums.sums _ _ _ _ so_far _ w (c.in_ok-fetch_next.was ∙ ap Ok c.in-Row.is) (Some (record { tpe = value.tpe; bytes = value.raw.now })) c.add.new.self
          (rw shown_is at (c.read.ensures.row now.sound now.holds now.ready))
          (λ before h. subst (λ (bs : List _). AddsUp c.add.new.self (before ++ Some bs ∷ [])) bytes (c.add.ensures before h)),
      on _ _ _ _ _ _ _ _ _ _ c.loop-sums.invariant.1 _ w,
    )

pub loop-sums-preserved : goal.loop-sums-preserved
loop-sums-preserved g c =
    let so_far = c.loop-sums.invariant.0 in
    let w = c.fetch_next.ensures.goes _ _ _ so_far.going in let now = w.going.now in
    let shown_is : c.read.result ≡ Ok None = c.in_ok-shown-in-Row.was ∙ ap (λ (x : Option Value). Ok x) c.in-None.is in (
      row_added _ _ _ _ c.loop-sums.sums _ _ _ _ so_far _ w (c.in_ok-fetch_next.was ∙ ap Ok c.in-Row.is) None c.add_null.new.self
          (rw shown_is at (c.read.ensures.row now.sound now.holds now.ready)) c.add_null.ensures,
      on _ _ _ _ _ _ _ _ _ _ c.loop-sums.invariant.1 _ w,
    )

pub returns-in_err-fetch_next-clause-arena : goal.returns-in_err-fetch_next-clause-arena
returns-in_err-fetch_next-clause-arena g c =
    let so_far = c.loop-sums.invariant in
    untouched _ _ _ _ _ _ _ _ (on _ _ _ _ _ _ _ _ _ _ so_far.1 _ (c.fetch_next.ensures.goes _ _ _ so_far.0.going))

pub returns-in-End-clause-arena : goal.returns-in-End-clause-arena
returns-in-End-clause-arena g c =
    let so_far = c.loop-sums.invariant in
    untouched _ _ _ _ _ _ _ _ (on _ _ _ _ _ _ _ _ _ _ so_far.1 _ (c.fetch_next.ensures.goes _ _ _ so_far.0.going))

pub returns-in_err-shown-in-Row-clause-arena : goal.returns-in_err-shown-in-Row-clause-arena
returns-in_err-shown-in-Row-clause-arena g c =
    let so_far = c.loop-sums.invariant in
    untouched _ _ _ _ _ _ _ _ (on _ _ _ _ _ _ _ _ _ _ so_far.1 _ (c.fetch_next.ensures.goes _ _ _ so_far.0.going))
