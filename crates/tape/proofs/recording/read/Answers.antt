use Rattle.std.proofs.Common.{length, sym, subst, rules}
use Rattle.std.proofs.lemmas.Bool.{eqb-true, eqb-false}
use Rattle.tape.specs.Recordings.{Read}
use Rattle.tape.proofs.Held.{slice_bytes}
use Rattle.tape.proofs.Whole.{wide_or_short, no_events, too_long, held, tape_of, behind_counts}
use Rattle.tape.proofs.recording.read.Goals as goal

pub returns-then-width-gt-MOST_COLUMNS : goal.returns-then-width-gt-MOST_COLUMNS
returns-then-width-gt-MOST_COLUMNS c =
    wide_or_short c.args.bytes.now c.in_ok-width.width c.in_ok-width.rest.now c.in_ok-width.ensures c.in_ok-count.count c.in_ok-count.rest.now c.in_ok-count.ensures
    (rw (sym c.from-width.ensures) c.then-width-gt-MOST_COLUMNS.either)

pub returns-in_err-end : goal.returns-in_err-end
returns-in_err-end c =
    subst (Read c.args.bytes.now) (sym c.from_residual-in_err-end.ensures)
    (no_events c.args.bytes.now c.in_ok-width.width c.in_ok-width.rest.now c.in_ok-width.ensures c.in_ok-count.count c.in_ok-count.rest.now c.in_ok-count.ensures
    (search rules) c.split_at.result.0.now c.split_at.result.1.now (search rules) (search rules) (search rules) c.in_err-end.ensures)

pub returns-then-not-is_empty : goal.returns-then-not-is_empty
returns-then-not-is_empty c =
    too_long c.args.bytes.now c.in_ok-width.width c.in_ok-width.rest.now c.in_ok-width.ensures c.in_ok-count.count c.in_ok-count.rest.now c.in_ok-count.ensures
    (search rules) c.split_at.result.0.now c.split_at.result.1.now (search rules) (search rules) (search rules)
    c.in_ok-end.field-0.now c.in_ok-end.ensures (eqb-false (length c.in_ok-end.field-0.now) 0 (sym c.if-not-is_empty.ensures))

pub invariant_of-result : goal.invariant_of-result
invariant_of-result c = record {
  held =
      held c.args.bytes.now c.in_ok-width.width c.in_ok-width.rest.now c.in_ok-width.ensures c.in_ok-count.count c.in_ok-count.rest.now c.in_ok-count.ensures
      (search rules) c.split_at.result.0.now c.split_at.result.1.now (search rules) (search rules) (search rules) c.in_ok-end.field-0.now
      (behind_counts c.args.bytes.now c.in_ok-width.width c.in_ok-width.rest.now c.in_ok-width.ensures c.in_ok-count.count c.in_ok-count.rest.now c.in_ok-count.ensures
      (slice_bytes c.args.bytes.now (λ i. (c.type_inv.bytes i).fits)))
      c.in_ok-end.ensures (eqb-true (length c.in_ok-end.field-0.now) 0 (sym c.if-not-is_empty.ensures));
}

pub returns : goal.returns
returns c =
    tape_of c.args.bytes.now c.in_ok-width.width c.in_ok-width.rest.now c.in_ok-width.ensures c.in_ok-count.count c.in_ok-count.rest.now c.in_ok-count.ensures
    (search rules) c.split_at.result.0.now c.split_at.result.1.now (search rules) (search rules) (search rules) _ c.result-1.given.0.1
