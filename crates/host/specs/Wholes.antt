-- A row that came whole: every null is marked, and every other field stands in its place, all its bytes in order, no figure lost.
use Rattle.std.specs.Prelude.{◌≡◌, ℕ, ◌+◌, ◌<◌, Bool, true, false, not, ◌&&◌, List, [], ◌∷◌, length, ◌==◌, slice_index, slice_index_or}
use Rattle.host.specs.declared.records.BindRecord.{BindRecord}
use Rattle.host.specs.declared.records.Report.{Report}
use Rattle.host.specs.declared.records.Fetched.{Fetched}
use Rattle.host.specs.Fields.{Field, null, held}
use Rattle.host.specs.Meanings.{Row, Event, row, failure, Meaning}
use Rattle.host.specs.Calls.{no_bind, no_report, field_of, bind_error, after_bind, allows, any_truncates, Fetches}

abbrev pub Whole : Field → BindRecord → Report → List ℕ → Type 0
Whole null b r a = r.is_null ≡ true
Whole (held lost bs) b r a =
    (r.is_null ≡ false) × (r.length ≡ length bs) × (lost ≡ false) × ((j : ℕ) → j < length bs → slice_index a (b.start + j) ≡ slice_index bs j)

pub record CameWhole (m : Meaning) (places : List BindRecord) (reports : List Report) (arena : List ℕ) : Type 0 where
  pub fields : Row
  pub rest : List Event
  pub next : m.coming ≡ row fields ∷ rest
  pub whole : (k : ℕ) → k < length places → Whole (field_of fields k (slice_index_or places k no_bind)) (slice_index_or places k no_bind) (slice_index_or reports k no_report) arena

-- whether a row comes whole: the bind is granted, the fetch is allowed, and a row is next of which nothing is truncated
abbrev pub next_whole : List BindRecord → List Event → Bool
next_whole places [] = false
next_whole places (failure n ∷ es) = false
next_whole places (row r ∷ es) = not (any_truncates r 0 places)

abbrev pub comes_whole : Meaning → List BindRecord → (arena reports : ℕ) → Bool
comes_whole m places arena reports = bind_error m places == 0 && allows (after_bind m places) arena reports && next_whole places m.coming

-- a bind that was refused leaves all but the error number
pub record NotBound (m m' : Meaning) (places : List BindRecord) (reports reports' : List Report) (arena arena' : List ℕ) : Type 0 where
  pub refused : (bind_error m places == 0) ≡ false
  pub host : m' ≡ after_bind m places
  pub same_reports : reports' ≡ reports
  pub same_arena : arena' ≡ arena

-- after one that was granted, all is as a fetch leaves it
pub record BoundAndFetched (m m' : Meaning) (places : List BindRecord) (reports reports' : List Report) (arena arena' : List ℕ) : Type 0 where
  pub granted : (bind_error m places == 0) ≡ true
  pub answer : Fetched
  pub fetched : Fetches answer (after_bind m places) m' reports reports' arena arena'
