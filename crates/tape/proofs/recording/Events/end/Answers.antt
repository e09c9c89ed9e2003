use Rattle.std.proofs.Common.{◌≡◌, ℕ, suc, ◌+◌, ◌-◌, sym, subst, arith}
use Rattle.std.specs.List.{flat_map}
use Rattle.tape.specs.Format.{event_bytes, EventsOf}
use Rattle.tape.specs.Steps.{Passes}
use Rattle.tape.proofs.Walked.{Walk, walk_start, events_on, events_cut, events_all}
use Rattle.tape.proofs.recording.Events.end.Goals as goal

pub loop-init : goal.loop-init
loop-init c = λ cs h.
    let s = c.args.self.now in
    let all : s.count ≡ s.count - 0 = omega arith in
    subst (λ (m : ℕ). Walk (EventsOf cs s.count) (EventsOf cs m) event_bytes s.bytes.now s.bytes.now) all walk_start

pub returns-in_err-rest : goal.returns-in_err-rest
returns-in_err-rest c = λ cs h.
    let s = c.args.self.now in
    let bs = c.loop.rest.now in
    let m = s.count - (c.loop.counter + 1) in
    let k : s.count - c.loop.counter ≡ suc m = omega arith in
    let w = subst (λ (m : ℕ). Walk (EventsOf cs s.count) (EventsOf cs m) event_bytes s.bytes.now bs) k (c.loop.invariant cs h) in
    subst (Passes (EventsOf cs s.count) (flat_map event_bytes) s.bytes.now) (sym c.from_residual.ensures)
    (events_cut cs s.count m s.bytes.now bs w (c.in_err-rest.ensures.event cs h))

pub loop-preserved : goal.loop-preserved
loop-preserved c = λ cs h.
    let s = c.args.self.now in
    let bs = c.loop.rest.now in
    let m = s.count - (c.loop.counter + 1) in
    let k : s.count - c.loop.counter ≡ suc m = omega arith in
    let w = subst (λ (m : ℕ). Walk (EventsOf cs s.count) (EventsOf cs m) event_bytes s.bytes.now bs) k (c.loop.invariant cs h) in
    let p = c.in_ok-rest.ensures.event cs h in
    events_on cs s.count m s.bytes.now bs p.0 c.in_ok-rest.field-0-1.now w p.1

pub returns : goal.returns
returns c = λ cs h.
    let s = c.args.self.now in
    let bs = c.loop.rest.now in
    let k : s.count - c.loop.counter ≡ 0 = omega arith in
    let w = subst (λ (m : ℕ). Walk (EventsOf cs s.count) (EventsOf cs m) event_bytes s.bytes.now bs) k (c.loop.invariant cs h) in
    events_all cs s.count s.bytes.now bs w
