use Rattle.std.proofs.Common.{◌≡◌, ◌∷◌, [], ◌++◌, ◌+◌, ◌*◌, List, ℕ, ap, sym, ◌∙◌, add-one, codes}
use Rattle.hex.specs.Hex.{encode_lower, lower_digits}
use Rattle.answers.specs.Singles.{kept_bits, kept_bytes}
use Rattle.answers.proofs.Snocs.{encode_snoc, encode_nil}
use Rattle.answers.proofs.Puts.{then, alike}
use Rattle.answers.proofs.text.Text.keeps.Goals as goal

pub loop-i-init : goal.loop-i-init
loop-i-init c = alike _ _ (codes " ") _ (ap (λ (ws : List ℕ). 32 ∷ ws) (encode_nil lower_digits)) c.part.ensures

pub loop-i-preserved : goal.loop-i-preserved
loop-i-preserved c =
    let t = c.args.tpe in
    let i = c.loop-i.i in
    let so_far = encode_lower (kept_bytes t i) in
    let byte = c.kept_byte.result in
    let more : encode_lower (kept_bytes t (i + 1)) ≡ so_far ++ encode_lower (byte ∷ [])
    = ap (λ n. encode_lower (kept_bytes t n)) (add-one i) ∙ encode_snoc lower_digits (kept_bytes t i) (kept_bits t (8 * i) 8) ∙ ap (λ b. so_far ++ encode_lower (b ∷ [])) (sym c.kept_byte.ensures) in
    alike _ _ _ _ (ap (λ (ws : List ℕ). 32 ∷ ws) (sym more)) (then _ _ _ (32 ∷ so_far) (encode_lower (byte ∷ [])) c.loop-i.invariant c.hexadecimal.ensures)
