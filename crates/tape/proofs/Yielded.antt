-- What going through columns and events yields, for a caller that runs through all of them.
-- Assumes nothing.
use Rattle.std.proofs.Common.{◌≡◌, refl, List, [], ◌∷◌, map, Some, None, Option}
use Rattle.std.specs.Prelude.{⊤}
use Rattle.std.proofs.lemmas.Iterator.{YieldsList}
use Rattle.std.specs.Iterator.{AlwaysYields}
use Rattle.mysql.specs.declared.bind.Column.{Column}
use Rattle.tape.specs.declared.recording.Columns.{Columns}
use Rattle.tape.specs.declared.recording.Events.{Events}
use Rattle.tape.specs.declared.event.Event.{Event as EventView}
use Rattle.tape.specs.Format.{Event, Contents}
use Rattle.tape.specs.Recordings.{ColumnsLeft, EventsLeft, GivesColumn, GivesEvent, StepsColumn, StepsEvent, Both}

column_runs : (cs : List Column) (s : Columns) → ColumnsLeft s cs → AlwaysYields (Both GivesColumn StepsColumn) (λ c. c) s cs
column_runs [] s h = λ x j k. let e : ◌≡◌ {A = Option Column} (Some x) None = (k.gives [] h).0 in cc
column_runs (c ∷ cs) s h = (
  λ j k. let e : ◌≡◌ {A = Option Column} None (Some c) = (k.gives (c ∷ cs) h).0 in cc,
  λ x j k. let p = k.gives (c ∷ cs) h in let e : ◌≡◌ {A = Option Column} (Some x) (Some c) = p.0 in (cc, column_runs cs j p.1),
)

pub columns_yielded : (s : Columns) (cs : List Column) → ColumnsLeft s cs → YieldsList (Both GivesColumn StepsColumn) (λ c. c) s cs
columns_yielded s cs h = record { runs = column_runs cs s h }

-- each event counts for one

abbrev pub one : {X : Type 0} → X → ⊤
one x = tt

event_runs : (cs : List Column) (es : List Event) (s : Events) → EventsLeft s (record { columns = cs; events = es }) → AlwaysYields (Both GivesEvent StepsEvent) one s (map one es)
event_runs cs [] s h = λ x j k. let e : ◌≡◌ {A = Option EventView} (Some x) None = (k.gives (record { columns = cs; events = [] }) h).0 in cc
event_runs cs (e ∷ es) s h = (
  λ j k. (k.gives (record { columns = cs; events = e ∷ es }) h).0,
  λ x j k. let p = k.gives (record { columns = cs; events = e ∷ es }) h in (refl, event_runs cs es j p.1),
)

pub events_yielded : (s : Events) (t : Contents) → EventsLeft s t → YieldsList (Both GivesEvent StepsEvent) one s (map one t.events)
events_yielded s t h = record { runs = event_runs t.columns t.events s h }
