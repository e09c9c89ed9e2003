use Rattle.std.proofs.Common.{◌≤◌, length, arith}
use Rattle.layout.specs.Tables.{count_of}
use Rattle.layout.proofs.Noting.{noted_more, same_places, plain_more}
use Rattle.layout.proofs.table.ColumnTable.note_all.Goals as goal

pub loop-i-preserved : goal.loop-i-preserved
loop-i-preserved c =
    let t = c.args.self.now in let u = c.loop-i.self in let i = c.loop-i.i in let v = c.note-plain.new.self in
    let s = c.loop-i.invariant in let n = c.note-plain.ensures in
    record {
      noted = noted_more t u v c.args.reports.now i s.places.count s.noted n.noted;
      places = same_places t u v s.places n.places;
      all_plain = plain_more u v _ i c.loop-i.plain c.note-plain.result (count_of t ≤ length c.args.reports.now) s.all_plain n.noted n.plain n.past;
    }

pub returns-clause-plain : goal.returns-clause-plain
returns-clause-plain c =
    let s = c.loop-i.invariant in (
      λ e. let h = s.all_plain.0 e in (h.0, λ k l. h.1 k (omega (arith, s.places.count, h.0)) l),
      λ (n, all). s.all_plain.1 (n, λ k l o. all k o),
    )
