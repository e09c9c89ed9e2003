use Rattle.std.proofs.Common.{◌++◌, List, ℕ, drop, ap, ◌∙◌, codes}
use Rattle.std.proofs.lemmas.Bool.Decides.{Decides-eqb}
use Rattle.std.proofs.lemmas.Slice.Eq.{strip_prefix_is, starts_is}
use Rattle.replay.proofs.lines.is_lost_after.Goals as goal

pub returns-in-Some : goal.returns-in-Some
returns-in-Some c = λ yes.
    let rest = c.in-Some.rest.now in
    let split = rw c.in-Some.is at (strip_prefix_is Decides-eqb c.args.answer.now c.args.front.now c.strip_prefix.result c.strip_prefix.ensures.cases) in
    let begins = (starts_is Decides-eqb rest (codes "lost:") c.starts_with.result c.starts_with.ensures.value).0 yes in
    (drop 5 rest, split ∙ ap (λ (xs : List ℕ). c.args.front.now ++ xs) begins)
