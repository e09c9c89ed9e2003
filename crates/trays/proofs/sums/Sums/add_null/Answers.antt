use Rattle.trays.proofs.Additions.{null_added}
use Rattle.trays.proofs.sums.Sums.add_null.Goals as goal

pub returns : goal.returns
returns c = null_added c.args.self.now _ _ c.saturating_add-self.ensures c.saturating_add-self-2.ensures
