use Rattle.std.proofs.Common.{inr, rules}
use Rattle.std.proofs.lemmas.Result.{err_from_is_err_and}
use Rattle.recorded.proofs.Fields.{no_value_word}
use Rattle.recorded.proofs.words.Words.value.Goals as goal

pub returns-in_err-bytes_in : goal.returns-in_err-bytes_in
returns-in_err-bytes_in c = λ room l.
    let r = c.from_residual-in_err-bytes_in in
    let p = err_from_is_err_and r.result r.ensures.1 in
    rw (p.1, p.2) (inr (c.in_ok-word.word.now, c.in_ok-word.ensures, no_value_word room c.in_ok-word.word.now c.in_err-bytes_in.field-0.0 (search rules) (c.in_err-bytes_in.ensures room l)))
