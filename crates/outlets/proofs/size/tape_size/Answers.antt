use Rattle.std.proofs.Common.{◌∙◌}
use Rattle.std.proofs.lemmas.Iterator.Consumers.{count_from_yields_List}
use Rattle.std.proofs.lemmas.List.{length-map}
use Rattle.tape.specs.Recordings.{contents}
use Rattle.tape.proofs.Yielded.{one, events_yielded}
use Rattle.outlets.proofs.size.tape_size.Goals as goal

pub returns : goal.returns
returns c =
    let t = contents c.in_ok-recording.recording in
    record {
      contents = t;
      is_tape = c.in_ok-recording.ensures.opened;
      columns = c.len.ensures.counted t.columns c.columns.ensures.all;
      events = count_from_yields_List c.events.result c.count.result c.count.ensures.ran (events_yielded c.events.result t c.events.ensures.all) ∙ length-map t.events one;
    }
