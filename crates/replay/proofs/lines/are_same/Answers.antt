use Rattle.std.proofs.Common.{codes, inr}
use Rattle.std.proofs.lemmas.Bool.Decides.{Decides-eqb}
use Rattle.std.proofs.lemmas.Slice.Eq.{strip_suffix_is}
use Rattle.replay.proofs.lines.are_same.Goals as goal

pub returns-in-Some : goal.returns-in-Some
returns-in-Some c = λ yes.
    let split = rw c.in-Some.is at (strip_suffix_is Decides-eqb c.args.recorded.now (codes "stop") c.strip_suffix.result c.strip_suffix.ensures.cases) in
    inr (c.in-Some.front.now, split, c.is_lost_after.ensures yes)
