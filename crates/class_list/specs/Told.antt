-- The lines that a program holds, as lines of a class list.
use Rattle.std.specs.Prelude.{ℕ, List, Some, None, Ok, Err, vec_items, Option, Result, Vec}
use Rattle.std.specs.Borrow.{Bor}
use Rattle.std.specs.declared.alloc.Global.{Global}
use Rattle.mysql.specs.declared.fault.Fault.{Fault}
use Rattle.class_list.specs.declared.lines.ClassRow.{ClassRow}
use Rattle.class_list.specs.declared.listener.SeenRow.{SeenRow}
use Rattle.class_list.specs.declared.lines.Line as held
use Rattle.class_list.specs.declared.lines.Line.TheVariants as line
use Rattle.class_list.specs.Lines.{ReadRow, Line, row, refused_row, failed}

abbrev pub told_outlet : Result (Option (Vec ℕ Global)) Fault → Result (Option (List ℕ)) Fault
told_outlet (Ok (Some bytes)) = Ok (Some (vec_items bytes))
told_outlet (Ok None) = Ok None
told_outlet (Err f) = Err f

abbrev pub told_row : ClassRow → ReadRow
told_row r = record { class = r.class; outlet = told_outlet r.outlet; diameter = r.diameter }

-- a row that is told, with the bytes of its outlet in the arena
abbrev pub seen_outlet : Result (Option (Bor (List ℕ))) Fault → Result (Option (List ℕ)) Fault
seen_outlet (Ok (Some bytes)) = Ok (Some bytes.now)
seen_outlet (Ok None) = Ok None
seen_outlet (Err f) = Err f

abbrev pub seen_row : SeenRow → ReadRow
seen_row r = record { class = r.class; outlet = seen_outlet r.outlet; diameter = r.diameter }

abbrev pub told : held.Line → Line
told (line.Row r) = row (told_row r)
told (line.RowRefused f) = refused_row f
told (line.Failed f) = failed f
