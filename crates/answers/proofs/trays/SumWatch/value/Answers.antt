use Rattle.std.proofs.Common.{Ok, Some, ℕ, ◌+◌, List, ◌++◌, length, ap, ◌∙◌, subst, arith}
use Rattle.checksum.specs.Checksums.{IsOf}
use Rattle.walk.specs.Walks.{a_column}
use Rattle.answers.specs.Trays.{bytes_in, trouble_in, capped}
use Rattle.answers.proofs.Summed.{more, same_words}
use Rattle.answers.proofs.trays.SumWatch.value.Goals as goal

pub returns : goal.returns
returns c = λ said h.
    let s = c.args.self.now in
    let hn = h.nulls in
    more s _ said (a_column (Ok (Some (record { tpe = c.args.value.tpe; bytes = c.args.value.raw.now })))) h (omega (arith, hn))
    (c.saturating_add-self.ensures ∙ ap (λ (ys : List ℕ). capped (s.bytes + length ys)) c.as_bytes-bytes.ensures)
    (subst (λ (ys : List ℕ). IsOf c.update.new.self (bytes_in said ++ ys)) c.as_bytes-bytes.ensures (c.update.ensures (bytes_in said) h.checksum)) (same_words s.text (trouble_in said) h.trouble)
