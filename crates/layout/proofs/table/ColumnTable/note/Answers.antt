use Rattle.std.proofs.Common.{◌≡◌, ℕ, ◌<◌, map, take, get_or, set, refl, sym, ap, ◌∙◌, arith, length-set}
use Rattle.std.proofs.lemmas.List.{get_or-set_same, get_or-set_other, get_or-take}
use Rattle.std.proofs.Math.Seq.{map-set_same, take-set-lt}
use Rattle.host.specs.declared.records.Report.{Report}
use Rattle.layout.specs.declared.record.ColumnRecord.{ColumnRecord}
use Rattle.layout.specs.declared.table.ColumnTable.{ColumnTable}
use Rattle.layout.specs.Columns.{no_record, bind_of, noted}
use Rattle.layout.specs.Tables.{items}
use Rattle.layout.proofs.Binding.{same_count, same_total, same_lies, same_room, same_sized}
use Rattle.layout.proofs.Spans.{count_is}
use Rattle.layout.proofs.table.ColumnTable.note.Goals as goal

-- a report that is noted leaves what the host is told of the columns
same_binds : (t : ColumnTable) (i : ℕ) (r : Report) (x : ColumnRecord) → i < t.count → x ≡ noted (get_or t.columns i no_record) r → map bind_of (take t.count (set t.columns i x)) ≡ map bind_of (items t)
same_binds t i r x l n =
    ap (map bind_of) (take-set-lt t.count t.columns i x l)
    ∙ map-set_same bind_of (items t) i x no_record (ap bind_of n ∙ ap bind_of (sym (get_or-take t.count t.columns i no_record l)))

pub invariant_of-self : goal.invariant_of-self
invariant_of-self c =
    let t = c.args.self.now in let i = c.args.i in
    let same = same_binds t i c.args.report c.note.new.self c.if-i-self.false c.note.ensures in
    record {
      array = length-set t.columns i _ ∙ t.array;
      few = t.few;
      laid = same_lies (items t) _ same t.laid;
      within = omega (arith, t.within, same_total (items t) _ same);
      roomy = same_room (items t) _ same t.roomy;
      sized = same_sized (items t) _ same t.sized;
      short = t.short;
    }

pub returns-clause-noted : goal.returns-clause-noted
returns-clause-noted c =
    let t = c.args.self.now in let i = c.args.i in let x = c.note.new.self in let l = c.if-i-self.false in
    let same = same_binds t i c.args.report x l c.note.ensures in
    let e = take-set-lt t.count t.columns i x l in
    record {
      count = same_count (items t) _ same;
      room = refl;
      here = λ k. ap (λ z. get_or z i no_record) e ∙ get_or-set_same (items t) i x no_record k ∙ c.note.ensures ∙ ap (λ z. noted z c.args.report) (sym (get_or-take t.count t.columns i no_record l));
      past = λ k. absurd (omega (arith, l, count_is t));
      others = λ k n. ap (λ z. get_or z k no_record) e ∙ get_or-set_other (items t) i k x no_record n;
    }

pub returns-clause-places : goal.returns-clause-places
returns-clause-places c =
    let t = c.args.self.now in
    let same = same_binds t c.args.i c.args.report c.note.new.self c.if-i-self.false c.note.ensures in
    record { count = same_count (items t) _ same; room = refl; binds_same = same; end_same = same_total (items t) _ same }
