-- A session and its host: how they agree, and what each call leaves.
use Rattle.std.specs.Prelude.{◌≡◌, ℕ, ◌<◌, ◌≤◌, Bool, true, false, cond, ◌&&◌, List, [], ◌∷◌, length, take, drop, Some, None, Ok, Err, Option, Result, ◌==◌, ◌≢◌, nat_lt, is_some, slice_index, slice_index_or}
use Rattle.mysql.specs.declared.backend.MysqlType.{MysqlType}
use Rattle.mysql.specs.declared.bind.Column.{Column}
use Rattle.mysql.specs.declared.fault.Fault.{Fault}
use Rattle.mysql.specs.declared.fault.Refusal.TheVariants.{Unopened, ArenaLength, NoSuchColumn, NoCurrentRow}
use Rattle.mysql.specs.Faults.{refused}
use Rattle.mysql.specs.Refusals.{number_of}
use Rattle.mysql.specs.Types.{type_of}
use Rattle.host.specs.declared.records.Report.{Report}
use Rattle.host.specs.Meanings.{Row, Event, row, failure, Meaning}
use Rattle.host.specs.Fields.{null}
use Rattle.host.specs.Calls.{no_report, Reported, Stands, with_error}
use Rattle.layout.specs.declared.record.ColumnRecord.{ColumnRecord}
use Rattle.layout.specs.declared.table.ColumnTable.{ColumnTable}
use Rattle.layout.specs.Columns.{bytes_of}
use Rattle.layout.specs.Tables.{count_of, col, binds, end, OpeningTable, SamePlaces}
use Rattle.layout.specs.Moves.{Beyond}
use Rattle.rows.specs.declared.answers.Fetch.{Fetch}
use Rattle.rows.specs.declared.spare.Spare.{Spare}
use Rattle.rows.specs.Standing.{pair_of, pairs_of, report_of, StandsWhole, Regrown}
use Rattle.session.specs.declared.answers.Slip.{Slip}
use Rattle.session.specs.declared.state.Session.{Session}
use Rattle.session.specs.declared.state.Opened as state
use Rattle.session.specs.Stages.{shown, table}
use Rattle.session.specs.declared.state.Value.{Value}
use Rattle.rows.specs.Bounds.{all_carried, field_at}
use Rattle.rows.specs.Dues.{TypedBytes, typed, placed, opening, fetched, read}

module _ {H : Type 0} where
  -- an opening was granted; and the last fetch showed a row
  abbrev pub is_open : Session H → Bool
  is_open s = is_some s.opened

  abbrev pub is_shown : Session H → Bool
  is_shown s = shown s.opened

  -- the columns as they are bound: an empty table where no opening was granted
  abbrev pub table_of : Session H → ColumnTable
  table_of s = table s.opened

  -- an opened session, of its parts
  abbrev pub session_of : H → state.Opened → List Report → Spare → Session H
  session_of h o rs sp = record { host = h; opened = Some o; reports = rs; spare = sp }

  -- While a session is opened, its host is bound to exactly the table's places, at codes that it carries. Where a row is shown, it is
  -- the host's current row.
  pub record Sound (m : Meaning) (s : Session H) : Type 0 where
    pub places : is_open s ≡ true → m.bound ≡ Some (binds (table_of s))
    pub as_many : is_open s ≡ true → count_of (table_of s) ≡ length m.columns
    pub carried : is_open s ≡ true → all_carried m.carries 0 (pairs_of (table_of s)) ≡ true
    pub a_row : is_shown s ≡ true → m.current ≢ None

  -- the row that a session shows
  abbrev pub shown_row : Meaning → Session H → Option Row
  shown_row m s = cond (is_shown s) m.current None

  -- the row that is shown stands whole in the arena
  pub record Holds (m : Meaning) (s : Session H) (a : List ℕ) : Type 0 where
    pub whole : (r : Row) → shown_row m s ≡ Some r → (k : ℕ) → k < count_of (table_of s) → StandsWhole (field_at r k (pair_of (col (table_of s) k))) (col (table_of s) k) a

-- openings

-- the host's error number after a refused opening: refusal 9 has it, and any other leaves it
abbrev pub error_after : Fault → ℕ → ℕ
error_after f before = cond (number_of f.refusal == 9) f.host before

-- columns were laid out: the host is bound to their places, these are zeroed, and no other byte changes
pub record Placed (m m' : Meaning) (pairs : List Column) (t : ColumnTable) (a a' : List ℕ) : Type 0 where
  pub due : placed (length a) m.carries pairs ≡ Ok pairs
  pub table : OpeningTable pairs (length a) t
  pub host : m' ≡ record { columns = m.columns; carries = m.carries; coming = m.coming; current = m.current; bound = Some (binds t); error = 0 }
  pub zeroed : (p : ℕ) → p < end t → slice_index a' p ≡ 0
  pub others : Beyond (end t) a a'

-- they were not: the arena is as it was, and so is the host, but for its error number where it refused the bind
pub record NotPlaced (m m' : Meaning) (pairs : List Column) (f : Fault) (a a' : List ℕ) : Type 0 where
  pub due : placed (length a) m.carries pairs ≡ Err f
  pub host : m' ≡ with_error (error_after f m.error) m
  pub same_arena : a' ≡ a

abbrev pub Places : {X : Type 0} → Result X Fault → (m m' : Meaning) → List Column → ColumnTable → (a a' : List ℕ) → Type 0
Places (Ok x) m m' pairs t a a' = Placed m m' pairs t a a'
Places (Err f) m m' pairs t a a' = NotPlaced m m' pairs f a a'

module _ {H : Type 0} where
  -- granted: the table is that of an opening, the host is bound to its places, these are zeroed, and no other byte changes
  pub record OpeningGranted (m m' : Meaning) (s s' : Session H) (pairs : List Column) (a a' : List ℕ) : Type 0 where
    pub table : OpeningTable pairs (length a) (table_of s')
    pub bound_with : pairs_of (table_of s') ≡ pairs
    pub host : m' ≡ record { columns = m.columns; carries = m.carries; coming = m.coming; current = m.current; bound = Some (binds (table_of s')); error = 0 }
    pub opened : is_open s' ≡ true
    pub no_row : is_shown s' ≡ false
    pub zeroed : (p : ℕ) → p < end (table_of s') → slice_index a' p ≡ 0
    pub others : Beyond (end (table_of s')) a a'

  -- refused: the arena and the session are as they were; where the host refused the bind, its error number is all that changes
  pub record OpeningRefused (f : Fault) (m m' : Meaning) (s s' : Session H) (a a' : List ℕ) : Type 0 where
    pub opened : is_open s' ≡ is_open s
    pub shown : is_shown s' ≡ is_shown s
    pub table : table_of s' ≡ table_of s
    pub host : m' ≡ with_error (error_after f m.error) m
    pub same_arena : a' ≡ a

  abbrev pub AfterOpening : Result Slip Fault → Result (List Column) Fault → (m m' : Meaning) (s s' : Session H) (a a' : List ℕ) → Type 0
  AfterOpening (Ok slip) (Ok pairs) m m' s s' a a' = OpeningGranted m m' s s' pairs a a'
  AfterOpening (Ok slip) (Err f) m m' s s' a a' = ⊥
  AfterOpening (Err f) (Ok pairs) m m' s s' a a' = ⊥
  AfterOpening (Err f) (Err g) m m' s s' a a' = (f ≡ g) × OpeningRefused f m m' s s' a a'

-- fetches

module _ {H : Type 0} where
  -- the two checks of a fetch: 1 where the session is not opened, 3 where the arena has another length than at the opening
  abbrev pub passes : Session H → List ℕ → Bool
  passes s a = is_open s && length a == (table_of s).room

  -- x where the two checks pass
  abbrev pub past_checks : {X : Type 0} → Session H → (arena : ℕ) → Result X Fault → Result X Fault
  past_checks s arena x = cond (is_open s) (cond (arena == (table_of s).room) x (Err (refused ArenaLength))) (Err (refused Unopened))

  abbrev pub fetch_answer : Session H → List ℕ → List Event → Result Fetch Fault
  fetch_answer s a coming = past_checks s (length a) (fetched (pairs_of (table_of s)) (length a) coming)

-- the host's meaning after an event was taken off
abbrev pub host_after : Meaning → List Event → Option Row → (error : ℕ) → Meaning
host_after m rest current error = record { columns = m.columns; carries = m.carries; coming = rest; current = current; bound = m.bound; error = error }

module _ {H : Type 0} where
  -- no event was left: nothing is written
  pub record EndMet (m m' : Meaning) (s s' : Session H) (a a' : List ℕ) : Type 0 where
    pub host : m' ≡ host_after m [] None 0
    pub opened : is_open s' ≡ true
    pub no_row : is_shown s' ≡ false
    pub table : table_of s' ≡ table_of s
    pub same_arena : a' ≡ a

  -- a failure was next. Free: the bytes of the places.
  pub record FailureMet (n : ℕ) (rest : List Event) (m m' : Meaning) (s s' : Session H) (a a' : List ℕ) : Type 0 where
    pub host : m' ≡ host_after m rest None n
    pub opened : is_open s' ≡ true
    pub no_row : is_shown s' ≡ false
    pub table : table_of s' ≡ table_of s
    pub outside : Beyond (end (table_of s)) a a'

  -- A row was next, and is refused: the places and the bind list stay, each field stands in its place as far as that goes, and the marks are
  -- the reports that the session has of the host. Free: the other bytes of the places, and what the host reports as the length of a null.
  pub record RowRefused (r : Row) (rest : List Event) (m m' : Meaning) (s s' : Session H) (a a' : List ℕ) : Type 0 where
    pub host : m' ≡ host_after m rest (Some r) 0
    pub opened : is_open s' ≡ true
    pub no_row : is_shown s' ≡ false
    pub places : SamePlaces (table_of s) (table_of s')
    pub pairs : pairs_of (table_of s') ≡ pairs_of (table_of s)
    pub reported : (k : ℕ) → k < count_of (table_of s) → Reported (field_at r k (pair_of (col (table_of s) k))) (col (table_of s) k).capacity (report_of (col (table_of s') k))
    pub told : (k : ℕ) → k < count_of (table_of s) → report_of (col (table_of s') k) ≡ slice_index_or s'.reports k no_report
    pub stands : (k : ℕ) → k < count_of (table_of s) → Stands (field_at r k (pair_of (col (table_of s) k))) (col (table_of s) k).start (col (table_of s) k).capacity a'
    pub outside : Beyond (end (table_of s)) a a'

  -- A row was next, and is shown: it stands whole in the new places, to which the host is bound; a null's mark is the report that the session
  -- has of the host. Free: the other bytes of the old and the new places, and what the host reports as the length of a null.
  pub record RowMet (r : Row) (rest : List Event) (m m' : Meaning) (s s' : Session H) (a a' : List ℕ) : Type 0 where
    pub host : m' ≡ record { columns = m.columns; carries = m.carries; coming = rest; current = Some r; bound = Some (binds (table_of s')); error = 0 }
    pub opened : is_open s' ≡ true
    pub shown : is_shown s' ≡ true
    pub table : Regrown r (table_of s) (table_of s')
    pub nulls : (k : ℕ) → k < count_of (table_of s) → field_at r k (pair_of (col (table_of s) k)) ≡ null → report_of (col (table_of s') k) ≡ slice_index_or s'.reports k no_report
    pub whole : (k : ℕ) → k < count_of (table_of s) → StandsWhole (field_at r k (pair_of (col (table_of s') k))) (col (table_of s') k) a'
    pub outside : (p : ℕ) → end (table_of s) ≤ p → end (table_of s') ≤ p → slice_index a' p ≡ slice_index a p

  -- what a fetch that passes its checks leaves, by the event that was next, and for a row by the answer
  abbrev pub AfterFetch : List Event → Result Fetch Fault → (m m' : Meaning) (s s' : Session H) (a a' : List ℕ) → Type 0
  AfterFetch [] x m m' s s' a a' = EndMet m m' s s' a a'
  AfterFetch (failure n ∷ rest) x m m' s s' a a' = FailureMet n rest m m' s s' a a'
  AfterFetch (row r ∷ rest) (Ok x) m m' s s' a a' = RowMet r rest m m' s s' a a'
  AfterFetch (row r ∷ rest) (Err f) m m' s s' a a' = RowRefused r rest m m' s s' a a'

  -- what a fetch that does not pass its checks leaves: all as it was
  pub record NotFetched (s s' : Session H) (a a' : List ℕ) : Type 0 where
    pub same : s' ≡ s
    pub same_arena : a' ≡ a

-- readings

-- the bytes that stand for a column's value in its place, with the type of its code and flags
abbrev pub record_shown : ℕ → ColumnRecord → List ℕ → Result (Option TypedBytes) Fault
record_shown k c a = cond c.is_null (Ok None) (typed k (take (bytes_of c) (drop c.start a)) (type_of c.code c.flags))

-- what is read where the checks pass, by whether a row is shown, the table and the arena: 4, 5, a null, 12, or bytes
abbrev pub looked : Bool → ColumnTable → List ℕ → ℕ → Result (Option TypedBytes) Fault
looked shown t a k = cond (nat_lt k (count_of t)) (cond shown (record_shown k (col t k) a) (Err (refused NoCurrentRow))) (Err (refused NoSuchColumn))

module _ {H : Type 0} where
  -- a reading: 1, 3, or the above
  abbrev pub reading : Session H → List ℕ → ℕ → Result (Option TypedBytes) Fault
  reading s a k = past_checks s (length a) (looked (is_shown s) (table_of s) a k)

-- what a value stands for
abbrev pub viewed : Option Value → Option TypedBytes
viewed None = None
viewed (Some v) = Some (record { tpe = v.value.tpe; bytes = v.value.raw.now })

abbrev pub shown_by : Result (Option Value) Fault → Result (Option TypedBytes) Fault
shown_by (Ok v) = Ok (viewed v)
shown_by (Err f) = Err f

-- A session with its own host, which means what `means` says of it: what the contracts of its calls say.
module _ {H : Type 0} (means : H → Meaning) where
  abbrev pub IsSound : Session H → Type 0
  IsSound s = Sound (means s.host) s

  abbrev pub HoldsRow : Session H → List ℕ → Type 0
  HoldsRow s a = Holds (means s.host) s a

  abbrev pub Opens : Result Slip Fault → List (Option MysqlType) → (s s' : Session H) (a a' : List ℕ) → Type 0
  Opens r wanted s s' a a' = let m = means s.host in AfterOpening r (opening (is_open s) (length a) m.carries wanted m.columns) m (means s'.host) s s' a a'

  abbrev pub Fetches : Result Fetch Fault → (s s' : Session H) (a a' : List ℕ) → Type 0
  Fetches r s s' a a' = AfterFetch (means s.host).coming r (means s.host) (means s'.host) s s' a a'

  -- what must be answered to a fetch, and to a reading of the row that is shown
  abbrev pub fetch_due : Session H → List ℕ → Result Fetch Fault
  fetch_due s a = fetch_answer s a (means s.host).coming

  abbrev pub row_due : Session H → ℕ → Result (Option TypedBytes) Fault
  row_due s k = read (pairs_of (table_of s)) (shown_row (means s.host) s) k
