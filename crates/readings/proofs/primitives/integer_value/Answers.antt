use Rattle.std.proofs.Common.{ap, ◌∙◌, rules}
use Rattle.std.proofs.lemmas.Result.{err_from_is_err_and}
use Rattle.readings.specs.declared.value.NumericRepresentation.TheVariants as number
use Rattle.mysql.specs.Answers.{next}
use Rattle.numeric.specs.Targets.{in_range}
use Rattle.readings.proofs.Numbers.{formed}
use Rattle.readings.proofs.primitives.integer_value.Goals as goal
use Rattle.readings.proofs.primitives.integer_value.Goals.{in-Tiny, in-UnsignedTiny, in-Small, in-UnsignedSmall, in-Medium, in-UnsignedMedium, in-Big, in-Float+in_ok-whole-in-Float, in-Double+in_ok-whole-in-Double}

pub returns-in_err-whole-in-Float : goal.returns-in_err-whole-in-Float
returns-in_err-whole-in-Float g c =
    let h = g.T.Target.half in
    let v = c.args.value.now in
    let r = c.from_residual-in_err-whole-in-Float in
    let p = err_from_is_err_and r.result r.ensures.1 in
    rw (p.1, p.2) (ap (λ r. next r (in_range h)) c.in_err-whole-in-Float.ensures ∙ formed h v.tpe v.raw c.in_ok-x.field-0 (number.Float c.in-Float.x) c.in_ok-x.ensures.holds c.in-Float.is)

pub returns-in_err-whole-in-Double : goal.returns-in_err-whole-in-Double
returns-in_err-whole-in-Double g c =
    let h = g.T.Target.half in
    let v = c.args.value.now in
    let r = c.from_residual-in_err-whole-in-Double in
    let p = err_from_is_err_and r.result r.ensures.1 in
    rw (p.1, p.2) (ap (λ r. next r (in_range h)) c.in_err-whole-in-Double.ensures ∙ formed h v.tpe v.raw c.in_ok-x.field-0 (number.Double c.in-Double.x) c.in_ok-x.ensures.holds c.in-Double.is)

pub returns-in-Decimal : goal.returns-in-Decimal
returns-in-Decimal g c =
    let v = c.args.value.now in
    c.decimal_to_integer.ensures ∙ formed g.T.Target.half v.tpe v.raw c.in_ok-x.field-0 (number.Decimal c.in-Decimal.text) c.in_ok-x.ensures.holds c.in-Decimal.is

pub returns : goal.returns
returns g c =
    let h = g.T.Target.half in
    let v = c.args.value.now in
    elim c.match-branch-2.branch [
      | in-Tiny w ↦ let f = formed h v.tpe v.raw c.in_ok-x.field-0 (number.Tiny w.in-Tiny.x) c.in_ok-x.ensures.holds w.in-Tiny.is in search rules
      | in-UnsignedTiny w ↦ let f = formed h v.tpe v.raw c.in_ok-x.field-0 (number.UnsignedTiny w.in-UnsignedTiny.x) c.in_ok-x.ensures.holds w.in-UnsignedTiny.is in search rules
      | in-Small w ↦ let f = formed h v.tpe v.raw c.in_ok-x.field-0 (number.Small w.in-Small.x) c.in_ok-x.ensures.holds w.in-Small.is in search rules
      | in-UnsignedSmall w ↦ let f = formed h v.tpe v.raw c.in_ok-x.field-0 (number.UnsignedSmall w.in-UnsignedSmall.x) c.in_ok-x.ensures.holds w.in-UnsignedSmall.is in search rules
      | in-Medium w ↦ let f = formed h v.tpe v.raw c.in_ok-x.field-0 (number.Medium w.in-Medium.x) c.in_ok-x.ensures.holds w.in-Medium.is in search rules
      | in-UnsignedMedium w ↦ let f = formed h v.tpe v.raw c.in_ok-x.field-0 (number.UnsignedMedium w.in-UnsignedMedium.x) c.in_ok-x.ensures.holds w.in-UnsignedMedium.is in search rules
      | in-Big w ↦ let f = formed h v.tpe v.raw c.in_ok-x.field-0 (number.Big w.in-Big.x) c.in_ok-x.ensures.holds w.in-Big.is in search rules
      | in-Float+in_ok-whole-in-Float w ↦
          let e = ap (λ r. next r (in_range h)) w.in_ok-whole-in-Float.ensures in
          let f = formed h v.tpe v.raw c.in_ok-x.field-0 (number.Float w.in-Float.x) c.in_ok-x.ensures.holds w.in-Float.is in
          search rules
      | in-Double+in_ok-whole-in-Double w ↦
          let e = ap (λ r. next r (in_range h)) w.in_ok-whole-in-Double.ensures in
          let f = formed h v.tpe v.raw c.in_ok-x.field-0 (number.Double w.in-Double.x) c.in_ok-x.ensures.holds w.in-Double.is in
          search rules
    ]
