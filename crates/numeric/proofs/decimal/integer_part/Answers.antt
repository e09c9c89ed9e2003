use Rattle.std.proofs.Common.{Err, sym, ap, ◌∙◌, rules}
use Rattle.numeric.specs.Decimals.{positive, negative}
use Rattle.numeric.proofs.Scan.{minus_at, plus_at, bare_at, empty_at}
use Rattle.numeric.proofs.decimal.integer_part.Goals as goal

pub returns-in-45 : goal.returns-in-45
returns-in-45 c = c.negated.ensures ∙ ap negative c.magnitude.ensures ∙ sym (minus_at c.args.half c.args.text.now (search rules) (search rules))

pub returns-in-43 : goal.returns-in-43
returns-in-43 c = c.plain.ensures ∙ ap positive c.magnitude-in-43.ensures ∙ sym (plus_at c.args.half c.args.text.now (search rules) (search rules))

pub returns-in_default : goal.returns-in_default
returns-in_default c = c.plain-in_default.ensures ∙ ap positive c.magnitude-in_default.ensures ∙ sym (bare_at c.args.half c.args.text.now (λ e. search rules) (λ e. search rules))

pub returns-in-empty : goal.returns-in-empty
returns-in-empty c = ap Err c.new.ensures ∙ sym (empty_at c.args.half c.args.text.now (search rules))
