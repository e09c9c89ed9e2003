use Rattle.std.proofs.Common.{not, refl, ap, ◌∙◌, rules}
use Rattle.tray.specs.Rows.{tray_row}
use Rattle.tray.specs.Trays.{row_now}
use Rattle.tray.proofs.Rowed.{record_bound}
use Rattle.tray.proofs.hosted.TrayHost.fetch_column.Goals as goal

pub returns : goal.returns
returns c =
    let at = record_bound c.args.self.now c.args.column (c.is_none.ensures ∙ ap not c.if-is_none.false) c.if-column-ne0.false in
    record {
      fields = tray_row c.in-Some.k;
      current = ap row_now c.in-Some.is;
      at = at.0;
      bound = at.1;
      after = refl;
      reported = c.write_field.ensures.reported;
      stands = c.write_field.ensures.stands;
      as_long = search rules;
    }
