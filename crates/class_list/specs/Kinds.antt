-- Lines by kind.
use Rattle.std.specs.Prelude.{Bool, true, false, ◌||◌, is_err}
use Rattle.class_list.specs.declared.lines.ClassRow.{ClassRow}
use Rattle.class_list.specs.declared.lines.Line.{Line}
use Rattle.class_list.specs.declared.lines.Line.TheVariants.{Row, RowRefused, Failed}

abbrev pub is_row : Line → Bool
is_row (Row r) = true
is_row (RowRefused f) = false
is_row (Failed f) = false

-- a row of which a value could not be read
abbrev pub lacks_value : ClassRow → Bool
lacks_value r = is_err r.class || is_err r.outlet || is_err r.diameter

abbrev pub is_partial : Line → Bool
is_partial (Row r) = lacks_value r
is_partial (RowRefused f) = false
is_partial (Failed f) = false

abbrev pub is_refused : Line → Bool
is_refused (Row r) = false
is_refused (RowRefused f) = true
is_refused (Failed f) = false

abbrev pub is_failed : Line → Bool
is_failed (Row r) = false
is_failed (RowRefused f) = false
is_failed (Failed f) = true
