use Rattle.std.proofs.Common.{◌≡◌, length, is_some, rules, ap, ◌∙◌}
use Rattle.play.specs.Histories.{fetch}
use Rattle.play.specs.Rules.{fetch_said}
use Rattle.play.specs.Calls.{asked_of, said_by}
use Rattle.play.proofs.Runs.{or_none}
use Rattle.play.proofs.Stepping.{fetch_steps, fetched_says, due_said, told}
use Rattle.play.proofs.steps.answer.Goals as goal

pub returns-in-Fetch-clause-answered : goal.returns-in-Fetch-clause-answered
returns-in-Fetch-clause-answered g c stands =
    let means = g.H.Host.meaning in
    let s = c.args.session.now in let s' = c.fetch.new.self in
    let a = c.args.arena.now in let a' = c.fetch.new.arena in
    let long : length a' ≡ length a = search rules in
    let e = c.fetch.ensures in
    let steps = fetch_steps means s s' a a' long stands c.fetch.result (e.answer stands.sound) e.unchecked (e.after stands.sound) (e.sound stands.sound) (e.holds stands.sound stands.holds) in
    let says = ap (said_by (λ bytes. bytes.now)) c.from-answer.ensures ∙ fetched_says (λ bytes. bytes.now) c.fetch.result ∙ steps.moved.says in
    rw c.in-Fetch.is
    (record {
      steps = due_said means fetch (fetch_said c.fetch.result) s s' a a' steps;
      slip = or_none (is_some c.args.slip.now);
      hears = told g.L.Listener.heard fetch _ (ap asked_of c.in-Fetch.is) _ _ says _ _ c.hear-in-Fetch.ensures;
    })
