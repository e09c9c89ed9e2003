use Rattle.std.proofs.Common.{◌≡◌, ℕ, ◌<◌, true, false, List, [], ◌++◌, length, sym, refl, ap, ◌∙◌, subst, inr, is_some, Some, None, drop, rules, arith}
use Rattle.std.specs.List.{flat_map}
use Rattle.host.specs.declared.records.BindRecord.{BindRecord}
use Rattle.host.specs.Calls.{in_order, all_end_by}
use Rattle.tape.specs.declared.event.Event.{Event as EventView}
use Rattle.tape.specs.declared.event.Row.{Row}
use Rattle.tape.specs.declared.recording.Events.{Events}
use Rattle.tape.specs.Format.{Event, field_bytes, event_bytes, ColumnsIn, RowContents}
use Rattle.tape.specs.Views.{Next, RowShows}
use Rattle.tape.specs.Recordings.{EventsLeft, PassesRow}
use Rattle.tape_host.specs.declared.current.Current.{Current}
use Rattle.tape_host.specs.declared.tapes.Tape.{Tape}
use Rattle.tape_host.specs.Formeds.{left_holds}
use Rattle.tape_host.specs.Tapes.{shown, left_of, columns_of, bound_of, places_of}
use Rattle.tape_host.specs.Wholes.{Wrote}
use Rattle.tape_host.proofs.Called.{allowed_says, places_ordered, failure_came, end_came, row_came, asked_next}
use Rattle.tape_host.proofs.Meant.{means_is, row_shown, RowNext, none_next, row_next, failure_next, same_columns}
use Rattle.tape_host.proofs.hosted.TapeHost.fetch.Goals as goal

pub write_row-truncated-requires : goal.write_row-truncated-requires
write_row-truncated-requires c =
    let t = c.args.self.now in
    let arena = c.args.arena.now in
    let a = allowed_says t (length arena) (length c.args.reports.now) (sym c.if-not-can_fetch.ensures) in
    let p = c.places.ensures.are in
    let n = c.places.ensures.counted (ap is_some a.bound) in
    let next = row_next (columns_of t) (left_of t).events c.in-Row.row
    (subst (λ (e : EventView). Next (columns_of t) (left_of t).events (Some e)) c.in-Row.is (c.in-Some.ensures (left_of t) (left_holds t))) in
    record {
      ordered = ap (in_order 0) p ∙ places_ordered t;
      inside = ap (all_end_by (length arena)) p ∙ a.inside;
      counted = a.reported ∙ sym n;
      asked = asked_next t c.places.result.now p n c.in-Row.row next;
    }

pub returns-in_default : goal.returns-in_default
returns-in_default c =
    let t = c.args.self.now in
    let none = none_next (columns_of t) (left_of t).events (c.in_default.ensures (left_of t) (left_holds t)) in
    let left = subst (λ (es : List Event). EventsLeft t.events (record { columns = columns_of t; events = es })) none (left_holds t) in
    end_came t c.args.reports.now c.args.arena.now (sym c.if-not-can_fetch.ensures) none _
    (means_is _ (record { columns = columns_of t; events = [] }) None (bound_of t) 0 left refl refl refl)

pub returns-in-Failure : goal.returns-in-Failure
returns-in-Failure c =
    let t = c.args.self.now in
    let after = c.next-event.new.self in
    let n = c.in-Failure.number in
    let f = failure_next (columns_of t) (left_of t).events n
    (subst (λ (e : EventView). Next (columns_of t) (left_of t).events (Some e)) c.in-Failure.is (c.in-Some.ensures (left_of t) (left_holds t))) in
    let left = subst (λ (es : List Event). EventsLeft after (record { columns = columns_of t; events = drop 1 es })) f.1 (c.next-event.ensures.steps.gives (left_of t) (left_holds t)).1 in
    let small : n < 65536 = search rules in
    inr (failure_came t c.args.reports.now c.args.arena.now (sym c.if-not-can_fetch.ensures) n f.0 f.1 _
    (means_is _ (record { columns = columns_of t; events = f.0 }) None (bound_of t) n left refl refl (omega arith)))

-- the events that are left behind a row
row_passed : (t : Tape) (row : Row) (rest : List ℕ) (after : Events) (next : RowNext (columns_of t) (left_of t).events row) → PassesRow t.events row rest after
    → ((r : RowContents) → RowShows row r → rest ≡ r.rest) → EventsLeft after (record { columns = columns_of t; events = next.others })
row_passed t row rest after next passes walked =
    let others = flat_map event_bytes next.others in
    passes (columns_of t) next.fields next.others
    (subst (λ (es : List Event). EventsLeft t.events (record { columns = columns_of t; events = es })) next.is (left_holds t)) next.shows
    (ap (λ bs. flat_map field_bytes next.fields ++ bs) (walked (record { columns = columns_of t; fields = next.fields; rest = others }) next.shows) ∙ next.shows.bytes_are)

pub invariant_of-self-in-Row : goal.invariant_of-self-in-Row
invariant_of-self-in-Row c =
    let t = c.args.self.now in
    let row = c.in-Row.row in
    let after = c.pass_row.new.self in
    let next = row_next (columns_of t) (left_of t).events row
    (subst (λ (e : EventView). Next (columns_of t) (left_of t).events (Some e)) c.in-Row.is (c.in-Some.ensures (left_of t) (left_holds t))) in
    let left = row_passed t row c.write_row-truncated.result.1.now after next c.pass_row.ensures c.write_row-truncated.ensures.rest in
    let same = same_columns t.events.columns.now after.columns.now (columns_of t) (left_holds t).columns_in left.columns_in in
    let columned = same_columns row.columns.now after.columns.now (columns_of t) next.shows.columns_in left.columns_in in
    record {
      few = t.few;
      wide = t.wide ∙ ap length same;
      left = (record { columns = columns_of t; events = next.others }, left);
      columned = λ x e.
          let is : c.new.result ≡ x = cc in
          subst (λ (k : Current). k.row.columns.now ≡ after.columns.now) is (ap (λ (r : Row). r.columns.now) c.new.ensures.row ∙ columned);
      ordered = t.ordered;
      coded = λ b cs h. t.coded b cs (subst (λ (bs : List ℕ). ColumnsIn bs cs) (sym same) h);
    }

pub returns-then-truncated : goal.returns-then-truncated
returns-then-truncated c =
    let t = c.args.self.now in
    let row = c.in-Row.row in
    let w = c.write_row-truncated in
    let after = c.pass_row.new.self in
    let next = row_next (columns_of t) (left_of t).events row
    (subst (λ (e : EventView). Next (columns_of t) (left_of t).events (Some e)) c.in-Row.is (c.in-Some.ensures (left_of t) (left_holds t))) in
    let r : RowContents = record { columns = columns_of t; fields = next.fields; rest = flat_map event_bytes next.others } in
    let left = row_passed t row w.result.1.now after next c.pass_row.ensures w.ensures.rest in
    let current = row_shown c.new.result r (subst (λ (v : Row). RowShows v r) (sym c.new.ensures.row) next.shows) in
    let wrote = subst (λ (ps : List BindRecord). Wrote r.fields ps w.new.reports c.args.arena.now w.new.arena w.result.0) c.places.ensures.are (w.ensures.wrote r next.shows) in
    row_came t c.args.reports.now c.args.arena.now (sym c.if-not-can_fetch.ensures) next.fields next.others next.is _
    (means_is _ (record { columns = columns_of t; events = next.others }) (Some (shown next.fields)) (bound_of t) 0 left current refl refl)
    true w.new.reports w.new.arena (search rules) (subst (Wrote r.fields (places_of t) w.new.reports c.args.arena.now w.new.arena) c.if-truncated.true wrote)

pub returns-else-truncated : goal.returns-else-truncated
returns-else-truncated c =
    let t = c.args.self.now in
    let row = c.in-Row.row in
    let w = c.write_row-truncated in
    let after = c.pass_row.new.self in
    let next = row_next (columns_of t) (left_of t).events row
    (subst (λ (e : EventView). Next (columns_of t) (left_of t).events (Some e)) c.in-Row.is (c.in-Some.ensures (left_of t) (left_holds t))) in
    let r : RowContents = record { columns = columns_of t; fields = next.fields; rest = flat_map event_bytes next.others } in
    let left = row_passed t row w.result.1.now after next c.pass_row.ensures w.ensures.rest in
    let current = row_shown c.new.result r (subst (λ (v : Row). RowShows v r) (sym c.new.ensures.row) next.shows) in
    let wrote = subst (λ (ps : List BindRecord). Wrote r.fields ps w.new.reports c.args.arena.now w.new.arena w.result.0) c.places.ensures.are (w.ensures.wrote r next.shows) in
    row_came t c.args.reports.now c.args.arena.now (sym c.if-not-can_fetch.ensures) next.fields next.others next.is _
    (means_is _ (record { columns = columns_of t; events = next.others }) (Some (shown next.fields)) (bound_of t) 0 left current refl refl)
    false w.new.reports w.new.arena (search rules) (subst (Wrote r.fields (places_of t) w.new.reports c.args.arena.now w.new.arena) c.if-truncated.false wrote)
