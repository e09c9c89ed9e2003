use Rattle.std.proofs.Common.{◌≡◌, ◌≤◌, drop}
use Rattle.numeric.specs.Decimals.{before_dot, natural}
use Rattle.numeric.proofs.Scan.{after}
use Rattle.numeric.proofs.decimal.magnitude.Given as goal

abbrev pub invariant-loop-b : goal.invariant-loop-b
invariant-loop-b l = (l.sum ≤ l.limit) × (natural l.limit (before_dot l.text) ≡ after l.limit l.sum (drop l.b-index l.text))
