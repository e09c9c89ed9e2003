use Rattle.std.proofs.Common.{◌≡◌, ◌%◌, ◌++◌, ◌<◌, false, eqb, ltb, length, drop, sym, refl, ap, ◌∙◌, arith, rules}
use Rattle.std.proofs.lemmas.List.{get_or_append_left}
use Rattle.tray.proofs.Written.{reported, stands}
use Rattle.tray.proofs.rows.write_field.Goals as goal

pub returns : goal.returns
returns c =
    let k = c.args.k in
    let offset = c.args.offset in
    let n = length c.args.part.now in
    let size = c.row_size-size.result in
    let front = c.write_bytes.new.part in
    let part = front ++ drop c.min-count.result c.args.part.now in
    let hs = c.row_size-size.ensures in
    let long : length part ≡ n = search rules in
    let whole : length front ≡ c.min-count.result = search rules in
    let b : eqb (k % 5) 3 ≡ false = sym c.is_null_row.ensures ∙ c.if-is_null_row.false in
    record {
      reported = reported k offset n size _ part hs refl refl (ap (λ x. ltb x c.saturating_sub-rest.result) long ∙ ap (ltb n) c.saturating_sub-rest.ensures) (eqb (k % 5) 3) b;
      stands = stands k offset n size (record { length = 0; is_null = false; is_truncated = false }) part hs
          (λ j l. let h : j < length front = omega (arith, c.min-count.ensures, c.saturating_sub-rest.ensures) in rw (get_or_append_left front (drop c.min-count.result c.args.part.now) 0 j h) (c.write_bytes.ensures j h)) (eqb (k % 5) 3) b;
    }
