use Rattle.std.proofs.Common.{◌≡◌, List, ℕ, ◌++◌, length, ap, ◌∙◌, subst}
use Rattle.answers.specs.Texts.{Has, number}
use Rattle.answers.specs.Trays.{nulls_in, bytes_in, capped, numbers}
use Rattle.answers.proofs.Puts.{then}
use Rattle.answers.proofs.trays.Sum.numbers.Goals as goal

pub returns : goal.returns
returns c = λ said words h w.
    let s = c.args.self.now in
    let sum = c.value.ensures (bytes_in said) h.checksum in
    let p = then _ _ _ (number s.nulls) _ c.number.ensures (then _ _ _ (number s.bytes) (number c.value.result) c.number-2.ensures c.number-3.ensures) in
    let same : number s.nulls ++ (number s.bytes ++ number c.value.result) ≡ numbers said
    = ap (λ n. number n ++ (number s.bytes ++ number c.value.result)) h.nulls
    ∙ ap (λ n. number (capped (nulls_in said)) ++ (number n ++ number c.value.result)) h.bytes
    ∙ ap (λ n. number (capped (nulls_in said)) ++ (number (capped (length (bytes_in said))) ++ number n)) sum in
    subst (λ (ws : List ℕ). Has c.number-3.new.self (words ++ ws)) same (p.puts words w)
