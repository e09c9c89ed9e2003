use Rattle.std.proofs.Common.{sym, ◌∙◌, arith}
use Rattle.std.proofs.lemmas.List.{append_cancel_left}
use Rattle.std.specs.List.{flat_map}
use Rattle.tape.specs.Format.{field_bytes, event_bytes}
use Rattle.tape.proofs.recording.Events.pass_row.Goals as goal

pub returns : goal.returns
returns c = λ cs fs es h shows walked.
    let behind = append_cancel_left (flat_map field_bytes fs) c.args.rest.now (flat_map event_bytes es) (walked ∙ sym shows.bytes_are) in
    let n = h.events_in.events_of.0 in
    record {
      columns_in = h.columns_in;
      events_in = record { bytes_are = sym behind; events_of = (omega (arith, n, c.saturating_sub-self.ensures), h.events_in.events_of.1.1) };
    }
