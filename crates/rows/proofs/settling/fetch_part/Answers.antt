use Rattle.std.proofs.Common.{ap, ◌∙◌}
use Rattle.mysql.specs.Faults.{host_failed}
use Rattle.rows.proofs.Parts.{part_got, part_never_refused}
use Rattle.rows.proofs.Asked.{part_told, part_denied, error_alone}
use Rattle.rows.proofs.settling.fetch_part.Goals as goal

pub returns-then-fetch_column : goal.returns-then-fetch_column
returns-then-fetch_column g c =
    let came = c.if-fetch_column.ensures in
    record {
      host = error_alone (g.H.Host.meaning c.args.host.now) (g.H.Host.meaning c.fetch_column.new.self) 0 came.after;
      asked = part_told _ _ c.args.column c.args.offset c.default-report.result c.fetch_column.new.report _ _ came;
      came = λ row b current at. part_got _ _ row b c.args.column c.args.offset c.default-report.result c.fetch_column.new.report _ _ current at came;
    }

pub returns-else-fetch_column : goal.returns-else-fetch_column
returns-else-fetch_column g c =
    let refused = c.if-fetch_column.ensures in
    record {
      host = error_alone (g.H.Host.meaning c.args.host.now) (g.H.Host.meaning c.fetch_column.new.self) _ refused.after;
      asked = (c.host.ensures ∙ ap host_failed c.error_number.ensures, part_denied _ _ c.args.column c.default-report.result c.fetch_column.new.report _ _ refused);
      came = λ row b current at. part_never_refused _ _ row b c.args.column c.args.offset c.default-report.result c.fetch_column.new.report _ _ current at refused;
    }
