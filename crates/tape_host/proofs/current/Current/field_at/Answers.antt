use Rattle.std.proofs.Common.{◌≡◌, ℕ, subst, arith}
use Rattle.tape.specs.Views.{RowShows, field_of}
use Rattle.tape_host.specs.Walks.{Left, Asked}
use Rattle.tape_host.proofs.Taking.{field_taken}
use Rattle.tape_host.proofs.current.Current.field_at.Goals as goal

pub loop-i-init : goal.loop-i-init
loop-i-init c = c.before-at.result.left

pub loop-i-preserved : goal.loop-i-preserved
loop-i-preserved c = λ r h.
    let x = c.before-at.result in
    let asked : Asked x.row c.args.places.now = rw c.before-at.ensures.row c.requires.asked in
    (field_taken x.row c.args.places.now asked r h c.loop-i.i c.loop-i.rest.now (omega (arith, c.requires.bound)) (c.loop-i.invariant r h)
    (field_of c.first_field.result.0) c.first_field.result.1.now c.first_field.ensures).1

pub invariant_of-result : goal.invariant_of-result
invariant_of-result c =
    let x = c.before-at.result in
    let asked : Asked x.row c.args.places.now = rw c.before-at.ensures.row c.requires.asked in
    let e : c.loop-i.i ≡ c.args.column = omega (arith, c.loop-i-test.false, c.loop-i.auto.i-end, c.before-at.ensures.before) in
    record {
      shows = x.shows;
      left = λ r h.
          (field_taken x.row c.args.places.now asked r h c.args.column c.loop-i.rest.now c.requires.bound (subst (λ (k : ℕ). Left r k c.loop-i.rest.now) e (c.loop-i.invariant r h))
          (field_of c.first_field-2.result.0) c.first_field-2.result.1.now c.first_field-2.ensures).1;
    }

pub returns-clause-field : goal.returns-clause-field
returns-clause-field c = λ r shows.
    let x = c.before-at.result in
    let asked : Asked x.row c.args.places.now = rw c.before-at.ensures.row c.requires.asked in
    let h : RowShows x.row r = rw c.before-at.ensures.row shows in
    let e : c.loop-i.i ≡ c.args.column = omega (arith, c.loop-i-test.false, c.loop-i.auto.i-end, c.before-at.ensures.before) in
    (field_taken x.row c.args.places.now asked r h c.args.column c.loop-i.rest.now c.requires.bound (subst (λ (k : ℕ). Left r k c.loop-i.rest.now) e (c.loop-i.invariant r h))
    (field_of c.first_field-2.result.0) c.first_field-2.result.1.now c.first_field-2.ensures).0
