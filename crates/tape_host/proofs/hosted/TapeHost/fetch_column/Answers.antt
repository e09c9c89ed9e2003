use Rattle.std.proofs.Common.{Bool, length, get_or, sym, refl, ap, ◌∙◌, subst, arith, rules}
use Rattle.host.specs.Fields.{Field}
use Rattle.host.specs.Calls.{no_bind, from_offset, PartReported, Stands, Parts}
use Rattle.tape.specs.Views.{RowShows}
use Rattle.tape.specs.declared.event.Row.{Row as RowView}
use Rattle.tape_host.specs.Formeds.{left_holds, row_holds}
use Rattle.tape_host.specs.Tapes.{shown, left_of, row_of, bound_of, places_of, current_of, means}
use Rattle.tape_host.proofs.Called.{record_some, record_past, part_refused, some_bound, asked_current}
use Rattle.tape_host.proofs.Meant.{means_is, row_shown}
use Rattle.tape_host.proofs.hosted.TapeHost.fetch_column.Goals as goal

pub returns-then-column-places : goal.returns-then-column-places
returns-then-column-places c =
    let t = c.args.self.now in
    let column = c.args.column in
    let r = c.refuse-then-column-places in
    let none = record_past (bound_of t) column (omega (arith, ap length c.places.ensures.are)) in
    subst (λ (b : Bool). Parts b (means t) (means r.new.self) column c.args.offset c.args.report.now c.args.report.now c.args.part.now c.args.part.now) (sym r.ensures.refused)
    (part_refused t column c.in-Some.current c.args.report.now c.args.part.now c.in-Some.is none (means r.new.self) r.ensures.after)

pub field_at-requires-clause-asked : goal.field_at-requires-clause-asked
field_at-requires-clause-asked c =
    let t = c.args.self.now in
    let now = c.in-Some.current in
    let ps = c.places-2.result.now in
    let some = some_bound (bound_of t) (omega (arith, ap length c.places.ensures.are)) in
    asked_current t ps c.places-2.ensures.are (c.places-2.ensures.counted some) now (t.columned now c.in-Some.is)

pub returns : goal.returns
returns c =
    let t = c.args.self.now in
    let column = c.args.column in
    let now = c.in-Some.current in
    let after = c.field_at.result.1 in
    let field = c.field_at.ensures.field (row_of now) (row_holds now) in
    let same = row_shown after (row_of now) (subst (λ (r : RowView). RowShows r (row_of now)) (sym c.field_at.ensures.row) (row_holds now)) in
    record {
      fields = shown (row_of now).fields;
      current = ap current_of c.in-Some.is;
      at = get_or (places_of t) column no_bind;
      bound = record_some (bound_of t) column (omega (arith, ap length c.places.ensures.are));
      after = means_is _ (left_of t) (current_of t.current) (bound_of t) 0 (left_holds t) (same ∙ sym (ap current_of c.in-Some.is)) refl refl;
      reported = subst (λ (f : Field). PartReported f c.args.offset (length c.args.part.now) c.write_field.result) field c.write_field.ensures.reported;
      stands = subst (λ (f : Field). Stands (from_offset c.args.offset f) 0 (length c.args.part.now) c.write_field.new.part) field c.write_field.ensures.stands;
      as_long = search rules;
    }
