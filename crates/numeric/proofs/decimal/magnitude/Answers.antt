use Rattle.std.proofs.Common.{ℕ, ◌+◌, ◌*◌, drop, sym, ap, ◌∙◌, inl, inr, arith, rules}
use Rattle.numeric.proofs.Scan.{after, end_from, dot_from, digit_from, full_from, other_from, begins, none_at_none, none_at_other}
use Rattle.numeric.proofs.decimal.magnitude.Goals as goal

pub returns-in_default : goal.returns-in_default
returns-in_default c = sym (none_at_none c.args.limit c.args.text.now (search rules))

pub returns-in_default-2 : goal.returns-in_default-2
returns-in_default-2 c = sym (none_at_other c.args.limit c.args.text.now (search rules) (inl (search rules)))

pub returns-in_default-3 : goal.returns-in_default-3
returns-in_default-3 c = sym (none_at_other c.args.limit c.args.text.now (search rules) (inr (search rules)))

pub loop-b-init : goal.loop-b-init
loop-b-init c = (omega arith, begins c.args.limit c.args.text.now (search rules) (search rules) (search rules))

pub returns-in-46 : goal.returns-in-46
returns-in-46 c =
    sym (c.loop-b.invariant.1 ∙ dot_from c.args.limit c.loop-b.sum c.loop-b.b-index c.args.text.now (omega arith) (omega arith) (omega arith))

pub returns-then-sum-limit : goal.returns-then-sum-limit
returns-then-sum-limit c =
    sym (c.loop-b.invariant.1 ∙ full_from c.args.limit c.loop-b.sum c.loop-b.b-index c.args.text.now (omega arith) (omega arith) (omega arith) (omega arith))

pub returns-in_default-b : goal.returns-in_default-b
returns-in_default-b c =
    sym (c.loop-b.invariant.1 ∙ other_from c.args.limit c.loop-b.sum c.loop-b.b-index c.args.text.now (omega arith) (λ e. omega arith) (inl (omega arith)))

pub returns-in_default-b-2 : goal.returns-in_default-b-2
returns-in_default-b-2 c =
    sym (c.loop-b.invariant.1 ∙ other_from c.args.limit c.loop-b.sum c.loop-b.b-index c.args.text.now (omega arith) (λ e. omega arith) (inr (omega arith)))

pub loop-b-preserved : goal.loop-b-preserved
loop-b-preserved c = (
  omega arith,
  c.loop-b.invariant.1
      ∙ digit_from c.args.limit c.loop-b.sum c.loop-b.b-index c.args.text.now (omega arith) (omega arith) (omega arith)
      ∙ ap (λ (d : ℕ). after c.args.limit (10 * c.loop-b.sum + d) (drop (c.loop-b.b-index + 1) c.args.text.now)) (sym c.from-digit.ensures),
)

pub returns : goal.returns
returns c = sym (c.loop-b.invariant.1 ∙ end_from c.args.limit c.loop-b.sum c.loop-b.b-index c.args.text.now (omega arith) (omega arith))
