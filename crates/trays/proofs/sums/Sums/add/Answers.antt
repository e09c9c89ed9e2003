use Rattle.trays.proofs.Additions.{bytes_added}
use Rattle.trays.proofs.sums.Sums.add.Goals as goal

pub returns : goal.returns
returns c = bytes_added c.args.self.now _ _ c.update.new.self c.args.bytes.now c.saturating_add-self.ensures c.saturating_add-self-2.ensures c.update.ensures
