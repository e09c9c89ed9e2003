-- The steps of going through a class list: contracts of inner functions. What it comes to as a whole is in Lists.
use Rattle.std.specs.Prelude.{Some, None, Option}
use Rattle.mysql.specs.declared.fault.Fault.{Fault}
use Rattle.mysql.specs.declared.fault.HostError.{HostError}
use Rattle.mysql.specs.Faults.{host_error_of}
use Rattle.host.specs.Meanings.{Meaning}
use Rattle.rows.specs.Standing.{pairs_of}
use Rattle.session.specs.declared.state.Session.{Session}
use Rattle.session.specs.Sessions.{table_of, shown_row}
use Rattle.class_list.specs.Lines.{ReadRow, Line, refused_row, failed, read_of}

-- a fault of a fetch: a failure's has a host's error, and a refused row's has none
abbrev pub line_by : Option HostError → Fault → Line
line_by (Some e) f = failed f
line_by None f = refused_row f

abbrev pub refusal_line : Fault → Line
refusal_line f = line_by (host_error_of f) f

module _ {H : Type 0} (means : H → Meaning) where
  -- what must be read of the row that is shown
  abbrev pub row_due : Session H → ReadRow
  row_due s = read_of (pairs_of (table_of s)) (shown_row (means s.host) s)
