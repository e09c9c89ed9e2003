use Rattle.std.proofs.Common.{refl, rules, arith}
use Rattle.tape.specs.Recordings.{contents}
use Rattle.tape.proofs.Columned.{columns_count}
use Rattle.tape_host.proofs.Meant.{new_holds}
use Rattle.tape_host.proofs.tapes.Tape.new.Goals as goal

pub invariant_of-result : goal.invariant_of-result
invariant_of-result c =
    let r = c.in_ok-recording.recording in
    let t = contents r in
    let h = c.events-events.ensures.all in
    let n = c.len.ensures.counted t.columns (c.columns.ensures t h) in
    let bytes = columns_count c.events-events.result.columns.now t.columns h.columns_in in
    record {
      few = omega (arith, n, c.in_ok-recording.ensures.opened.narrow);
      wide = omega (arith, n, bytes);
      left = (t, h);
      columned = search rules;
      ordered = search rules;
      coded = search rules;
    }

pub returns : goal.returns
returns c = new_holds c.args.bytes.now _ (contents c.in_ok-recording.recording) c.events-events.ensures.all refl refl refl c.in_ok-recording.ensures.opened
