use Rattle.std.proofs.Common.{◌∷◌, sym, ◌∙◌, subst, rules, arith}
use Rattle.host.specs.Fields.{HeldAt}
use Rattle.tape.specs.Format.{tag, field_bytes}
use Rattle.host.specs.Fields.{FieldAt}
use Rattle.tape.specs.Steps.{Takes}
use Rattle.tape.specs.Views.{field_of}
use Rattle.tape.proofs.Held.{slice_bytes, no_length, other_size, held_taken}
use Rattle.tape.proofs.walk.take_held.Goals as goal

pub returns-in_err-length : goal.returns-in_err-length
returns-in_err-length c =
    subst (Takes (FieldAt c.args.code) field_bytes field_of (tag c.args.lost ∷ c.args.bytes.now)) (sym c.from_residual.ensures)
    (no_length c.args.code c.args.lost c.args.bytes.now c.in_err-length.ensures)

pub returns-then-length-size : goal.returns-then-length-size
returns-then-length-size c =
    other_size c.args.code c.args.lost c.args.bytes.now c.in_ok-length.length c.in_ok-length.rest.now c.in_ok-length.ensures c.in-Some.size
    (sym c.known_buffer_size_for_ffi_type.ensures ∙ c.in-Some.is) c.then-length-size.either

pub returns-else-size-rest : goal.returns-else-size-rest
returns-else-size-rest c =
    let size = sym c.known_buffer_size_for_ffi_type.ensures ∙ c.in-Some.is in
    let n = c.if-length-size.false in
    held_taken c.args.code c.args.lost c.args.bytes.now c.in_ok-length.length c.in_ok-length.rest.now c.in_ok-length.ensures
    c.split_at.result.0.now c.split_at.result.1.now (slice_bytes c.args.bytes.now (λ i. (c.type_inv.bytes i).fits)) (omega (arith, c.if-size-rest.false))
    (search rules) (search rules) (λ l. subst (λ s. HeldAt s c.args.lost c.split_at.result.0.now) (sym size) (l ∙ n))

pub returns-else-length-rest : goal.returns-else-length-rest
returns-else-length-rest c =
    let size = sym c.known_buffer_size_for_ffi_type.ensures ∙ c.in-None.is in
    held_taken c.args.code c.args.lost c.args.bytes.now c.in_ok-length.length c.in_ok-length.rest.now c.in_ok-length.ensures
    c.split_at-in-None.result.0.now c.split_at-in-None.result.1.now (slice_bytes c.args.bytes.now (λ i. (c.type_inv.bytes i).fits)) (search rules)
    (search rules) (search rules) (λ l. subst (λ s. HeldAt s c.args.lost c.split_at-in-None.result.0.now) (sym size) (search rules, search rules))
