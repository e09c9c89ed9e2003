use Rattle.std.proofs.Common.{◌≡◌, ◌+◌, ◌-◌, length, get_or, arith, rules}
use Rattle.host.specs.Calls.{no_bind}
use Rattle.host.proofs.Written.{inside_at, more_written, all_written}
use Rattle.tape.specs.Views.{field_of}
use Rattle.tape_host.specs.Tapes.{shown}
use Rattle.tape_host.proofs.Taking.{field_taken, left_behind}
use Rattle.tape_host.proofs.write.write_row.Goals as goal

pub overflow_add-end : goal.overflow_add-end
overflow_add-end c = let h = inside_at (length c.args.arena.now) c.args.places.now c.requires.inside c.loop-i.i (omega arith) in omega arith

pub slice_bounds-write_field-end : goal.slice_bounds-write_field-end
slice_bounds-write_field-end c = let h = inside_at (length c.args.arena.now) c.args.places.now c.requires.inside c.loop-i.i (omega arith) in search rules

pub loop-i-preserved : goal.loop-i-preserved
loop-i-preserved c = λ r shows.
    let row = c.args.row in
    let ps = c.args.places.now in
    let i = c.loop-i.i in
    let h = inside_at (length c.args.arena.now) ps c.requires.inside i (omega arith) in
    let b = get_or ps i no_bind in
    let size : b.start + b.capacity - b.start ≡ b.capacity = omega arith in
    let now = c.loop-i.invariant r shows in
    let k = field_taken row ps c.requires.asked r shows i c.loop-i.rest.now (omega arith) now.0 (field_of c.first_field.result.0) c.first_field.result.1.now c.first_field.ensures in (
      k.1,
      more_written (shown r.fields) ps c.loop-i.reports c.args.arena.now c.loop-i.arena c.loop-i.truncated i now.1 c.requires.ordered (omega arith) (omega arith)
          (b.start + b.capacity - b.start) c.write_field-report.new.part c.write_field-report.result
          (omega arith) size (search rules) (field_of c.first_field.result.0) k.0 _ (search rules) c.write_field-report.ensures.reported c.write_field-report.ensures.stands,
    )

pub returns-clause-rest : goal.returns-clause-rest
returns-clause-rest c = λ r shows.
    left_behind c.args.row c.args.places.now c.requires.asked r shows c.loop-i.i c.loop-i.rest.now (omega arith) (c.loop-i.invariant r shows).0

pub returns-clause-wrote : goal.returns-clause-wrote
returns-clause-wrote c = λ r shows.
    let ps = c.args.places.now in
    let n : length ps ≡ c.loop-i.i = omega arith in
    let w = all_written (shown r.fields) ps c.loop-i.reports c.args.arena.now c.loop-i.arena c.loop-i.truncated c.loop-i.i n c.loop-i.auto.arena (c.loop-i.invariant r shows).1 in
    record { reported = w.reported; stands = w.stands; untouched = w.untouched; marked = w.marked }
