use Rattle.std.proofs.Common.{◌∷◌, sym, refl, ap, ◌∙◌, rules, arith}
use Rattle.tape.specs.Format.{row, failure}
use Rattle.tape.proofs.Columned.{all_from}
use Rattle.tape.proofs.Tagged.{first_and_tail, no_row, no_number}
use Rattle.tape.proofs.walk.take_event.Goals as goal

pub returns-in_ok-rest-in-0-clause-event : goal.returns-in_ok-rest-in-0-clause-event
returns-in_ok-rest-in-0-clause-event c = λ cs h.
    let p = c.in_ok-rest-in-0.ensures cs (all_from c.args.columns.now cs h) in
    let first = first_and_tail 0 c.args.bytes.now (search rules) (search rules) in
    (row p.0, record { fits = p.1.fits; bytes_are = ap (λ u. 0 ∷ u) p.1.bytes_are ∙ sym first }, record { columns_in = h; row_of = p.1.fits; bytes_are = p.1.bytes_are })

pub returns-in_ok-rest-in-0-clause-any : goal.returns-in_ok-rest-in-0-clause-any
returns-in_ok-rest-in-0-clause-any c = λ cs h.
    let p = c.in_ok-rest-in-0.ensures cs h in
    let first = first_and_tail 0 c.args.bytes.now (search rules) (search rules) in
    (row p.0, record { fits = p.1.fits; bytes_are = ap (λ u. 0 ∷ u) p.1.bytes_are ∙ sym first }, (refl, sym first))

pub returns-else-number-eq-NO_FAILURE-clause-event : goal.returns-else-number-eq-NO_FAILURE-clause-event
returns-else-number-eq-NO_FAILURE-clause-event c = λ cs h.
    let n = c.in_ok-number-in-1.number in
    let b = c.in_ok-number-in-1.ensures in
    let first = first_and_tail 1 c.args.bytes.now (search rules) (search rules) in
    let some = c.if-number-eq-NO_FAILURE.false in
    let few = b.fits in
    (failure n, record { fits = (omega arith, omega arith); bytes_are = ap (λ u. 1 ∷ u) b.bytes_are ∙ sym first }, refl)

pub returns-else-number-eq-NO_FAILURE-clause-any : goal.returns-else-number-eq-NO_FAILURE-clause-any
returns-else-number-eq-NO_FAILURE-clause-any c = λ cs h.
    let n = c.in_ok-number-in-1.number in
    let b = c.in_ok-number-in-1.ensures in
    let first = first_and_tail 1 c.args.bytes.now (search rules) (search rules) in
    let some = c.if-number-eq-NO_FAILURE.false in
    let few = b.fits in
    (failure n, record { fits = (omega arith, omega arith); bytes_are = ap (λ u. 1 ∷ u) b.bytes_are ∙ sym first }, refl)

pub returns-in_err-rest-in-0-clause-event : goal.returns-in_err-rest-in-0-clause-event
returns-in_err-rest-in-0-clause-event c = λ cs h.
    let first = first_and_tail 0 c.args.bytes.now (search rules) (search rules) in
    rw c.from_residual.ensures (no_row cs c.args.bytes.now _ first (c.in_err-rest-in-0.ensures cs (all_from c.args.columns.now cs h)))

pub returns-in_err-rest-in-0-clause-any : goal.returns-in_err-rest-in-0-clause-any
returns-in_err-rest-in-0-clause-any c = λ cs h.
    let first = first_and_tail 0 c.args.bytes.now (search rules) (search rules) in
    rw c.from_residual.ensures (no_row cs c.args.bytes.now _ first (c.in_err-rest-in-0.ensures cs h))

pub returns-in_err-number-in-1-clause-event : goal.returns-in_err-number-in-1-clause-event
returns-in_err-number-in-1-clause-event c = λ cs h.
    let first = first_and_tail 1 c.args.bytes.now (search rules) (search rules) in
    rw c.from_residual-in_err-number-in-1.ensures (no_number cs c.args.bytes.now _ first c.in_err-number-in-1.ensures)

pub returns-in_err-number-in-1-clause-any : goal.returns-in_err-number-in-1-clause-any
returns-in_err-number-in-1-clause-any c = λ cs h.
    let first = first_and_tail 1 c.args.bytes.now (search rules) (search rules) in
    rw c.from_residual-in_err-number-in-1.ensures (no_number cs c.args.bytes.now _ first c.in_err-number-in-1.ensures)
