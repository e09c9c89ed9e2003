use Rattle.std.proofs.Common.{inr, arith, sym}
use Rattle.std.proofs.lemmas.Bool.{eqb-true}
use Rattle.std.proofs.lemmas.List.{nil_from_length}
use Rattle.std.proofs.lemmas.Result.{err_from_is_err_and}
use Rattle.recorded.proofs.Fields.{empty_word}
use Rattle.recorded.proofs.words.bytes_in.Goals as goal

pub returns-then-is_empty : goal.returns-then-is_empty
returns-then-is_empty c = λ room l. empty_word room c.args.word.now (nil_from_length c.args.word.now (eqb-true _ 0 (sym c.if-is_empty.ensures)))

pub returns-in_err-resize : goal.returns-in_err-resize
returns-in_err-resize c = λ room l.
    let p = err_from_is_err_and c.from_residual.result c.from_residual.ensures.1 in
    let full = c.in_err-resize.ensures.full in
    let same = c.clear.ensures.capacity in
    rw p.1 (inr (p.2, omega (arith, full, same, l)))
