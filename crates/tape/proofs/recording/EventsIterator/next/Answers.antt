use Rattle.std.proofs.Common.{◌≡◌, ◌-◌, ◌≤◌, inl, inr, refl, rules, arith}
use Rattle.tape.proofs.Stepped.{event_step, no_step}
use Rattle.tape.proofs.recording.EventsIterator.next.Goals as goal

pub returns-in_err-count-clause-steps : goal.returns-in_err-count-clause-steps
returns-in_err-count-clause-steps c = rw c.from_residual.ensures (no_step c.args.self.now (λ cs h. inl (omega (arith, c.in_err-count.ensures))))

pub returns-in_err-event-clause-steps : goal.returns-in_err-event-clause-steps
returns-in_err-event-clause-steps c = rw c.from_residual-in_err-event.ensures (no_step c.args.self.now (λ cs h. inr (c.in_err-event.ensures.any cs h)))

pub returns-clause-steps : goal.returns-clause-steps
returns-clause-steps c =
    let s = c.args.self.now in
    let some : 1 ≤ s.count = search rules in
    let less : c.in_ok-count.count ≡ s.count - 1 = search rules in
    record {
      gives = λ t h.
          let p = c.in_ok-event.ensures.event t.columns h.columns_in in
          let k = event_step t.columns t.events s.bytes.now s.count c.in_ok-count.count c.in_ok-event.event c.in_ok-event.rest.now h.events_in some less p.0 p.1 p.2 in
          (k.0, record { columns_in = h.columns_in; events_in = k.1 });
      steps = (refl, omega arith, c.in_ok-event.ensures.any);
    }
