use Rattle.std.proofs.Common.{Ok, None, sym, arith, subst, List, ℕ}
use Rattle.std.proofs.lemmas.List.{append-nil}
use Rattle.checksum.specs.Checksums.{IsOf}
use Rattle.walk.specs.Walks.{a_column}
use Rattle.answers.specs.Trays.{bytes_in, trouble_in}
use Rattle.answers.proofs.Summed.{more, same_words}
use Rattle.answers.proofs.trays.SumWatch.null.Goals as goal

pub returns : goal.returns
returns c = λ said h.
    let s = c.args.self.now in
    let hb = h.bytes in
    more s _ said (a_column (Ok None)) h c.saturating_add-self.ensures (omega (arith, hb))
    (subst (λ (ys : List ℕ). IsOf s.checksum ys) (sym (append-nil (bytes_in said))) h.checksum) (same_words s.text (trouble_in said) h.trouble)
