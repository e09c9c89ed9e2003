use Rattle.std.proofs.Common.{◌≡◌, ◌∷◌, [], ◌++◌, ◌+◌, List, ℕ, take, get_or, ap, sym, ◌∙◌, arith, refl}
use Rattle.std.proofs.lemmas.List.{take_more}
use Rattle.hex.specs.Hex.{encode_lower, lower_digits}
use Rattle.answers.proofs.Snocs.{encode_snoc, encode_nil, on_ok}
use Rattle.answers.proofs.Puts.{none, then, alike}
use Rattle.answers.proofs.text.Text.hexadecimal.Goals as goal

pub loop-byte-init : goal.loop-byte-init
loop-byte-init c = alike _ _ [] _ (encode_nil lower_digits) (none c.args.self.now)

pub loop-byte-preserved : goal.loop-byte-preserved
loop-byte-preserved c =
    let bs = c.args.bytes.now in
    let i = c.loop-byte.byte-index in
    let b = get_or bs i 0 in
    let so_far = encode_lower (take i bs) in
    let pair : c.encode_to_slice.new.output ≡ encode_lower (b ∷ []) = on_ok c.encode_to_slice.result (c.encode_to_slice.ensures.fits.1 refl) c.encode_to_slice.ensures.written in
    let more : take (i + 1) bs ≡ take i bs ++ b ∷ [] = take_more bs i 0 (omega arith) in
    alike _ _ _ _ (ap (λ (ws : List ℕ). so_far ++ ws) pair ∙ sym (ap encode_lower more ∙ encode_snoc lower_digits (take i bs) b))
    (then _ _ _ so_far c.encode_to_slice.new.output c.loop-byte.invariant c.part-in-loop-byte.ensures)
