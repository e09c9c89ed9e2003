-- A row that was settled, in an opened session. These relations tie the private steps of a fetch together; what a fetch as a whole does is in
-- Sessions.
use Rattle.std.specs.Prelude.{◌≡◌, ℕ, true, false, List, Ok, Err, Result}
use Rattle.mysql.specs.declared.fault.Fault.{Fault}
use Rattle.host.specs.declared.records.Report.{Report}
use Rattle.host.specs.Meanings.{Row, Meaning}
use Rattle.layout.specs.declared.table.ColumnTable.{ColumnTable}
use Rattle.rows.specs.declared.answers.Fetch.{Fetch}
use Rattle.rows.specs.declared.answers.Fetch.TheVariants as fetch
use Rattle.rows.specs.Settling.{Shows, Refuses}
use Rattle.session.specs.declared.state.Opened.{Opened}

pub record ShowsIn (m : Meaning) (r : Row) (t : ColumnTable) (reports : List Report) (a : List ℕ) (m' : Meaning) (o' : Opened) (a' : List ℕ) : Type 0 where
  pub shown : o'.shown ≡ true
  pub settled : Shows m r t reports a m' o'.table a'

pub record RefusesIn (m : Meaning) (r : Row) (t : ColumnTable) (reports : List Report) (a : List ℕ) (f : Fault) (m' : Meaning) (o' : Opened) (a' : List ℕ) : Type 0 where
  pub no_row : o'.shown ≡ false
  pub settled : Refuses m r t reports a f m' o'.table a'

abbrev pub SettledIn : Meaning → Row → ColumnTable → List Report → List ℕ → Result Fetch Fault → Meaning → Opened → List ℕ → Type 0
SettledIn m r t reports a (Ok x) m' o' a' = (x ≡ fetch.Row) × ShowsIn m r t reports a m' o' a'
SettledIn m r t reports a (Err f) m' o' a' = RefusesIn m r t reports a f m' o' a'
