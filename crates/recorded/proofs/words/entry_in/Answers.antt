use Rattle.std.proofs.Common.{length, ◌+◌, rules}
use Rattle.std.proofs.lemmas.Result.{err_from_is_err_and}
use Rattle.recorded.proofs.Fields.{no_entry}
use Rattle.recorded.proofs.words.entry_in.Goals as goal

pub returns-in_err-type_in : goal.returns-in_err-type_in
returns-in_err-type_in c =
    let word = c.args.word.now in
    let p = err_from_is_err_and c.from_residual.result c.from_residual.ensures.1 in
    rw (p.1, p.2) (no_entry word c.in_err-type_in.field-0.0 (search rules) (c.in_err-type_in.ensures (length word + 1)))

pub returns-in_ok-type_in : goal.returns-in_ok-type_in
returns-in_ok-type_in c = c.in_ok-type_in.ensures 0
