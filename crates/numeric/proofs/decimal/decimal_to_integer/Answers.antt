use Rattle.std.proofs.Common.{◌≡◌, ℕ, ◌<◌, Bool, true, cond, leb, Err, sym, ap, ◌∙◌, arith, w64, SFits, rules}
use Rattle.std.proofs.lemmas.Int.{to_z-of_z}
use Rattle.std.proofs.lemmas.Bool.{le-leb}
use Rattle.mysql.specs.Faults.{refused}
use Rattle.mysql.specs.declared.fault.Refusal.TheVariants.{NotUtf8, ManyDots}
use Rattle.numeric.specs.Utf8.{utf8}
use Rattle.numeric.specs.Decimals.{dots, before_dot, integer_text}
use Rattle.numeric.specs.Targets.{in_range}
use Rattle.numeric.proofs.Scan.{text_in}
use Rattle.numeric.proofs.decimal.decimal_to_integer.Goals as goal

pub returns : goal.returns
returns g c =
    let b = c.args.bytes.now in
    let h = g.T.Target.half in
    let u : utf8 b ≡ true = sym c.is_utf8.ensures ∙ c.if-not-is_utf8.false in
    let d : leb (dots b) 1 ≡ true = le-leb (dots b) 1 (omega (arith, c.count_dots.ensures)) in
    let e = c.in_ok-integer_part.ensures in
    let k = sym (e ∙ ap (λ (n : ℕ). integer_text n (before_dot b)) c.half_range.ensures.is) in
    let l : 0 < h = omega (arith, c.half_range.ensures.is, c.half_range.ensures.low) in
    let z = c.in_ok-integer_part.field-0 in
    let f : SFits w64 z = search rules in
    c.narrow.ensures ∙ ap (in_range h) (to_z-of_z w64 z f) ∙ text_in h (before_dot b) z l k ∙ sym k
    ∙ sym (ap (λ (t : Bool). cond t (cond (leb (dots b) 1) (integer_text h (before_dot b)) (Err (refused ManyDots))) (Err (refused NotUtf8))) u
    ∙ ap (λ (t : Bool). cond t (integer_text h (before_dot b)) (Err (refused ManyDots))) d)
