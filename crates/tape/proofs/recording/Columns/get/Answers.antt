use Rattle.std.proofs.Common.{◌*◌, length, drop, ap, ◌∙◌, subst, arith}
use Rattle.std.proofs.lemmas.List.{take_rest, length-drop}
use Rattle.host.specs.Meanings.{ColumnFits}
use Rattle.tape.specs.Format.{column_bytes}
use Rattle.tape.specs.Steps.{Begins, NoneBegins}
use Rattle.tape.proofs.Columned.{column_some, column_none, columns_behind, get_behind}
use Rattle.tape.proofs.recording.Columns.get.Goals as goal

pub returns-in_err-found : goal.returns-in_err-found
returns-in_err-found c = λ cs h.
    let bs = c.args.self.now.bytes.now in
    let i = c.args.i in
    let l = c.len.ensures.counted cs h in
    let none = subst (NoneBegins ColumnFits column_bytes) (take_rest bs (5 * i)) c.in_err-found.ensures in
    absurd (omega (arith, length-drop i cs, ap length (column_none (drop (5 * i) bs) (drop i cs) (columns_behind i bs cs (omega arith) h) none)))

pub returns : goal.returns
returns c = λ cs h.
    let bs = c.args.self.now.bytes.now in
    let i = c.args.i in
    let l = c.len.ensures.counted cs h in
    let found = c.in_ok-found.found in
    let rest = c.in_ok-found.field-0-1.now in
    let begins = subst (λ b. Begins ColumnFits column_bytes b found rest) (take_rest bs (5 * i)) c.in_ok-found.ensures in
    (column_some (drop (5 * i) bs) (drop i cs) found rest (columns_behind i bs cs (omega arith) h) begins).0 ∙ get_behind i cs
