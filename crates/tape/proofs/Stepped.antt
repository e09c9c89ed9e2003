-- Events, gone through one after the other.
-- Assumes nothing.
use Rattle.std.proofs.Common.{◌≡◌, ℕ, ◌-◌, ◌≤◌, List, [], ◌∷◌, drop, Some, None, ◌⊎◌, ⊎_elim, sym, refl, ◌∙◌, subst, arith}
use Rattle.std.specs.List.{flat_map}
use Rattle.mysql.specs.declared.bind.Column.{Column}
use Rattle.tape.specs.declared.event.Event.{Event as EventView}
use Rattle.tape.specs.declared.recording.Events.{Events}
use Rattle.tape.specs.Format.{Event, event_bytes, EventOf, EventsIn}
use Rattle.tape.specs.Steps.{Begins, NoneBegins}
use Rattle.tape.specs.Views.{Shows, Next, ColumnsFrom}
use Rattle.tape.proofs.Columned.{all_from}
use Rattle.tape.specs.Recordings.{GivesEvent, StepsEvent, Both}
use Rattle.tape.specs.Unique.{event_one}

-- an event that is taken off is the next one
pub event_step : (cs : List Column) (es : List Event) (bytes : List ℕ) (n m : ℕ) (v : EventView) (rest : List ℕ) → EventsIn cs bytes n es → 1 ≤ n → m ≡ n - 1
    → (e : Event) → Begins (EventOf cs) event_bytes bytes e rest → Shows v cs e rest → Next cs es (Some v) × EventsIn cs rest m (drop 1 es)
event_step cs [] bytes n m v rest h some less e b shows = absurd (omega (arith, h.events_of.0))
event_step cs (f ∷ es) bytes n m v rest h some less e b shows =
    let o = event_one cs e f rest (flat_map event_bytes es) b.fits h.events_of.1.0 (b.bytes_are ∙ sym h.bytes_are) in (
      subst (λ (x : Event). Shows v cs x (flat_map event_bytes es)) o.0 (subst (λ (r : List ℕ). Shows v cs e r) o.1 shows),
      record { bytes_are = sym o.1; events_of = (omega (arith, h.events_of.0), h.events_of.1.1) },
    )

-- where no event is taken off, none is left
no_event : (cs : List Column) (es : List Event) (bytes : List ℕ) (n : ℕ) → EventsIn cs bytes n es → (n ≡ 0) ⊎ NoneBegins (EventOf cs) event_bytes bytes → Next cs es None × EventsIn cs bytes n (drop 1 es)
no_event cs [] bytes n h none = (refl, h)
no_event cs (e ∷ es) bytes n h none =
    absurd (⊎_elim (λ z. omega (arith, z, h.events_of.0)) (λ k. k e (flat_map event_bytes es) (record { fits = h.events_of.1.0; bytes_are = h.bytes_are })) none)

pub no_step : (s : Events) → ((cs : List Column) → ColumnsFrom s.columns.now cs → (s.count ≡ 0) ⊎ NoneBegins (EventOf cs) event_bytes s.bytes.now) → Both GivesEvent StepsEvent s None s
no_step s none = record {
  gives = λ t h.
      let k = no_event t.columns t.events s.bytes.now s.count h.events_in (none t.columns (all_from s.columns.now t.columns h.columns_in)) in
      (k.0, record { columns_in = h.columns_in; events_in = k.1 });
  steps = (none, refl);
}
