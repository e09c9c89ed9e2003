-- What reading a result to its end comes to.
use Rattle.std.specs.Prelude.{ℕ, false, List, [], length, Result}
use Rattle.mysql.specs.declared.fault.Fault.{Fault}
use Rattle.mysql.specs.Answers.{next}
use Rattle.host.specs.Meanings.{Meaning}
use Rattle.rows.specs.Dues as dues
use Rattle.rows.specs.Standing.{pairs_of}
use Rattle.session.specs.declared.state.Session.{Session}
use Rattle.session.specs.Sessions.{table_of}
use Rattle.trays.specs.declared.sums.Sums.{Sums}
use Rattle.trays.specs.Fields.{fields_of}
use Rattle.trays.specs.Sums.{SumsOf}

-- it is opened as a new session opens it, with no wanted types, and the fields of all events that were to come are added up
abbrev pub ReadsTo : Meaning → (arena : ℕ) → Result Sums Fault → Type 0
ReadsTo m arena r = SumsOf (next (dues.opening false arena m.carries [] m.columns) (λ pairs. fields_of pairs arena m.coming)) r

-- it is an opened session that is read to its end
module _ {H : Type 0} (means : H → Meaning) where
  abbrev pub SumsFrom : Session H → List ℕ → Result Sums Fault → Type 0
  SumsFrom s a r = SumsOf (fields_of (pairs_of (table_of s)) (length a) (means s.host).coming) r
