-- What becomes of a row between the host's fetch and the session's answer: `Handled` for any host and any reports, and `Settled` for a host
-- that reported the row that it has current. The relations above these tie the steps together; what a fetch as a whole does is in Sessions.
use Rattle.std.specs.Prelude.{◌≡◌, ℕ, ◌-◌, ◌<◌, ◌≤◌, Bool, true, false, ◌⊎◌, List, length, Some, Ok, Err, Result, nat_lt, slice_index, slice_index_or}
use Rattle.mysql.specs.declared.fault.Fault.{Fault}
use Rattle.mysql.specs.declared.fault.Refusal.TheVariants.{NumericOverflow, NoRoom}
use Rattle.mysql.specs.Faults.{refused, host_failed, at_column}
use Rattle.host.specs.declared.records.BindRecord.{BindRecord}
use Rattle.host.specs.declared.records.Report.{Report}
use Rattle.host.specs.Fields.{Field, null, held}
use Rattle.host.specs.Meanings.{Row, Meaning, RowFits}
use Rattle.host.specs.Calls.{no_report, with_error, bind_error, field_of, from_offset, record_of, Reported, PartReported, Stands}
use Rattle.layout.specs.declared.table.ColumnTable.{ColumnTable}
use Rattle.layout.specs.Columns.{kept, wanted, Over}
use Rattle.layout.specs.Tables.{count_of, col, start, end, binds, sum_of, need, Noted, SamePlaces, AllFit, NoneLost, LowestLost, Grown}
use Rattle.layout.specs.Moves.{Beyond}
use Rattle.rows.specs.declared.answers.Fetch.{Fetch}
use Rattle.rows.specs.declared.answers.Fetch.TheVariants as fetch
use Rattle.rows.specs.Bounds.{all_carried, field_at, row_need, first_loss}
use Rattle.rows.specs.Dues.{row_fetched}
use Rattle.rows.specs.Standing.{pair_of, pairs_of, report_of, StandsWhole, Regrown}

-- what a row has in a column of a table
abbrev pub column_field : Row → ColumnTable → ℕ → Field
column_field r t k = field_at r k (pair_of (col t k))

-- no figure of a field was lost
abbrev pub NotLost : Field → Type 0
NotLost null = Unit {0}
NotLost (held lost bs) = lost ≡ false

-- the host has a row current that keeps to the rules, and is bound to the table's places
pub record Current (m : Meaning) (r : Row) (t : ColumnTable) : Type 0 where
  pub current : m.current ≡ Some r
  pub places : m.bound ≡ Some (binds t)
  pub no_error : m.error ≡ 0
  pub as_many : count_of t ≡ length m.columns
  pub carried : all_carried m.carries 0 (pairs_of t) ≡ true
  pub fits : RowFits m r

-- it wrote the row to the places, and reported it
pub record RowGot (m : Meaning) (r : Row) (t : ColumnTable) (reports : List Report) (a : List ℕ) : Type 0 where
  pub current : Current m r t
  pub room : t.room ≡ length a
  pub as_many : length reports ≡ count_of t
  pub reported : (k : ℕ) → k < count_of t → Reported (column_field r t k) (col t k).capacity (slice_index_or reports k no_report)
  pub stands : (k : ℕ) → k < count_of t → Stands (column_field r t k) (start t k) (col t k).capacity a

-- the reports are in the table
pub record RowIn (m : Meaning) (r : Row) (t : ColumnTable) (a : List ℕ) : Type 0 where
  pub current : Current m r t
  pub room : t.room ≡ length a
  pub reported : (k : ℕ) → k < count_of t → Reported (column_field r t k) (col t k).capacity (report_of (col t k))
  pub stands : (k : ℕ) → k < count_of t → Stands (column_field r t k) (start t k) (col t k).capacity a

-- growth

-- a part of a column was fetched into a part of the arena
pub record PartGot (m : Meaning) (f : Field) (offset : ℕ) (report : Report) (m' : Meaning) (from to : ℕ) (a' : List ℕ) : Type 0 where
  pub host : m' ≡ with_error 0 m
  pub reported : PartReported f offset (to - from) report
  pub stands : Stands (from_offset offset f) from (to - from) a'

abbrev pub PartAs : Result Report Fault → Meaning → Field → ℕ → Meaning → (from to : ℕ) → List ℕ → Type 0
PartAs (Err f) m field offset m' from to a' = ⊥
PartAs (Ok report) m field offset m' from to a' = PartGot m field offset report m' from to a'

-- it is, where a row is current and the column is bound
abbrev pub PartInto : Meaning → Row → BindRecord → (column offset : ℕ) → Result Report Fault → Meaning → (from to : ℕ) → List ℕ → Type 0
PartInto m r b column offset report m' from to a' = m.current ≡ Some r → record_of m column ≡ Some b → PartAs report m (field_of r column b) offset m' from to a'

-- the table `old` has a row's reports, and what was kept of the row stands in the places of `new`
pub record Half (m : Meaning) (r : Row) (old new : ColumnTable) (a : List ℕ) : Type 0 where
  pub current : Current m r old
  pub reported : (k : ℕ) → k < count_of old → Reported (column_field r old k) (col old k).capacity (report_of (col old k))
  pub clean : (k : ℕ) → k < count_of old → NotLost (column_field r old k)
  pub stands : (k : ℕ) → k < count_of old → Stands (column_field r old k) (start new k) (kept (col old k)) a

-- all of it stands there
pub record Whole (m : Meaning) (r : Row) (old new : ColumnTable) (a : List ℕ) (m' : Meaning) (t : ColumnTable) (a' : List ℕ) : Type 0 where
  pub host : m' ≡ m
  pub pairs : (k : ℕ) → k < count_of old → pair_of (col t k) ≡ pair_of (col old k)
  pub reported : (k : ℕ) → k < count_of old → Reported (column_field r old k) (col t k).capacity (report_of (col t k))
  pub whole : (k : ℕ) → k < count_of old → StandsWhole (column_field r old k) (col t k) a'
  pub told : (k : ℕ) → k < count_of old → (Over (col old k) → ⊥) → report_of (col t k) ≡ report_of (col old k)
  pub beyond : Beyond (end new) a a'

abbrev pub WholeAs : {X : Type 0} → Result X Fault → Meaning → Row → (old new : ColumnTable) → List ℕ → Meaning → ColumnTable → List ℕ → Type 0
WholeAs (Ok x) m r old new a m' t a' = Whole m r old new a m' t a'
WholeAs (Err f) m r old new a m' t a' = ⊥

-- a call for the missing part of a column is granted: a row is current, and the column is bound
pub record PartBound (m : Meaning) (column : ℕ) : Type 0 where
  pub row : Row
  pub current : m.current ≡ Some row
  pub at : BindRecord
  pub bound : record_of m column ≡ Some at

-- a report has a field's null mark, and the length of one that is not null
abbrev pub Tells : Report → Field → Type 0
Tells report null = report.is_null ≡ true
Tells report (held lost bs) = (report.is_null ≡ false) × (report.length ≡ length bs)

-- it was granted, and the field was reported; or it was refused
pub record PartTold (m : Meaning) (column : ℕ) (report : Report) : Type 0 where
  pub part : PartBound m column
  pub tells : Tells report (field_of part.row column part.at)

abbrev pub PartAsked : Meaning → ℕ → Result Report Fault → Meaning → Type 0
PartAsked m column (Ok report) m' = PartTold m column report
PartAsked m column (Err f) m' = (f ≡ host_failed m'.error) × (PartBound m column → ⊥)

-- the missing parts were asked for, and reported in the table
pub record AllTold (m : Meaning) (old new t : ColumnTable) : Type 0 where
  pub pairs : (k : ℕ) → pair_of (col t k) ≡ pair_of (col new k)
  pub others : (k : ℕ) → (Over (col old k) → ⊥) → col t k ≡ col new k
  pub parts : (k : ℕ) → k < count_of old → Over (col old k) → PartTold m k (report_of (col t k))

-- or that of a column was refused
pub record PartDenied (m : Meaning) (old : ColumnTable) (f : Fault) (m' : Meaning) : Type 0 where
  pub fault : f ≡ host_failed m'.error
  pub column : ℕ
  pub within : column < count_of old
  pub over : Over (col old column)
  pub denied : PartBound m column → ⊥

abbrev pub MissingAsked : {X : Type 0} → Result X Fault → Meaning → (old new : ColumnTable) → Meaning → ColumnTable → Type 0
MissingAsked (Ok x) m old new m' t = AllTold m old new t
MissingAsked (Err f) m old new m' t = PartDenied m old f m'

-- a field is no longer than this
abbrev pub Within : ℕ → Field → Type 0
Within n null = Unit {0}
Within n (held lost bs) = length bs ≤ n

-- The host grants the calls for what is missing in the places of `new`: each column that is longer than its old place is bound, and has a
-- field that fits the new one; and the places are bound.
pub record Grants (m : Meaning) (old new : ColumnTable) : Type 0 where
  pub part : (k : ℕ) → k < count_of old → Over (col old k) → PartBound m k
  pub fits : (k : ℕ) (l : k < count_of old) (over : Over (col old k)) → Within (col new k).capacity (field_of (part k l over).row k (part k l over).at)
  pub bind : bind_error m (binds new) ≡ 0

-- The places grew: the capacities are wide, or tight where the wide ones exceed the arena. A column that fitted its place keeps what was
-- reported of it.
pub record Enlarged (m : Meaning) (old : ColumnTable) (a : List ℕ) (t : ColumnTable) (m' : Meaning) (a' : List ℕ) : Type 0 where
  pub granted : Grants m old t
  pub long : old.room ≤ length a
  pub enough : need old ≤ old.room
  pub count : count_of t ≡ count_of old
  pub room : t.room ≡ old.room
  pub pairs : pairs_of t ≡ pairs_of old
  pub tight : Bool
  pub rule_tight : tight ≡ true → old.room < sum_of false old
  pub rule_wide : tight ≡ false → sum_of false old ≤ old.room
  pub capacities : (k : ℕ) → k < count_of old → (col t k).capacity ≡ wanted tight (col old k)
  pub told : (k : ℕ) → k < count_of old → (Over (col old k) → ⊥) → report_of (col t k) ≡ report_of (col old k)
  pub beyond : Beyond (end t) a a'
  pub host : m' ≡ record { columns = m.columns; carries = m.carries; coming = m.coming; current = m.current; bound = Some (binds t); error = 0 }

-- and a row stands whole in the new places
pub record Grew (m : Meaning) (r : Row) (old : ColumnTable) (a : List ℕ) (t : ColumnTable) (m' : Meaning) (a' : List ℕ) : Type 0 where
  pub enlarged : Enlarged m old a t m' a'
  pub reported : (k : ℕ) → k < count_of old → Reported (column_field r old k) (col t k).capacity (report_of (col t k))
  pub whole : (k : ℕ) → k < count_of old → StandsWhole (column_field r old k) (col t k) a'

-- there is no room: host and arena stay
pub record NotGrown (m : Meaning) (old : ColumnTable) (a : List ℕ) (f : Fault) (m' : Meaning) (a' : List ℕ) : Type 0 where
  pub fault : f ≡ refused NoRoom
  pub why : old.room ≤ length a → old.room < need old
  pub host : m' ≡ m
  pub same_arena : a' ≡ a

-- There is, but the host does not grant the calls, or has a longer field than was reported. Free: the bytes of the new places.
pub record HostFailed (m : Meaning) (old : ColumnTable) (a : List ℕ) (f : Fault) (m' : Meaning) (a' : List ℕ) : Type 0 where
  pub new : ColumnTable
  pub long : old.room ≤ length a
  pub grown : Grown old new
  pub denied : Grants m old new → ⊥
  pub fault : f ≡ host_failed m'.error
  pub host : m' ≡ with_error m'.error m
  pub beyond : Beyond (end new) a a'

-- room is made by whatever host: the table has its new places, or stays
abbrev pub RoomTried : {X : Type 0} → Meaning → ColumnTable → List ℕ → Result X Fault → Meaning → ColumnTable → List ℕ → Type 0
RoomTried m old a (Ok x) m' t a' = Enlarged m old a t m' a'
RoomTried m old a (Err f) m' t a' = (t ≡ old) × (NotGrown m old a f m' a' ⊎ HostFailed m old a f m' a')

-- and by one that reported the row that it has current
abbrev pub RoomMade : {X : Type 0} → Meaning → Row → ColumnTable → List ℕ → Result X Fault → Meaning → ColumnTable → List ℕ → Type 0
RoomMade m r old a (Ok x) m' t a' = Grew m r old a t m' a'
RoomMade m r old a (Err f) m' t a' = (t ≡ old) × NotGrown m old a f m' a'

-- nothing is asked of the host
pub record Untouched (m : Meaning) (t : ColumnTable) (a : List ℕ) (m' : Meaning) (t' : ColumnTable) (a' : List ℕ) : Type 0 where
  pub host : m' ≡ m
  pub table : t' ≡ t
  pub same_arena : a' ≡ a

-- Whatever the host and the reports are, and however many: they are noted. Then a figure that was lost is refused with 10, at the lowest such
-- column; else a table that all fits is kept; else room is made.
pub record Handled (m : Meaning) (t : ColumnTable) (reports : List Report) (a : List ℕ) (result : Result Unit Fault) (m' : Meaning) (t' : ColumnTable) (a' : List ℕ) : Type 0 where
  pub told : ColumnTable
  pub noted : Noted t reports told
  pub places : SamePlaces t told
  pub lost : (i : ℕ) → LowestLost told i → (result ≡ Err (at_column (refused NumericOverflow) i)) × Untouched m told a m' t' a'
  pub fits : NoneLost told → AllFit told → (result ≡ Ok tt) × Untouched m told a m' t' a'
  pub over : NoneLost told → (AllFit told → ⊥) → RoomTried m told a result m' t' a'

-- the row as a whole

abbrev pub row_answer : Row → ColumnTable → Result Fetch Fault
row_answer r t = row_fetched (first_loss r 0 (pairs_of t)) (nat_lt t.room (row_need r 0 (pairs_of t)))

-- It is to be shown, and stands whole in the table's new places. The marks are as the host reported the row, or the rest of a field that was
-- fetched: so of a null.
pub record Shows (m : Meaning) (r : Row) (t : ColumnTable) (reports : List Report) (a : List ℕ) (m' : Meaning) (t' : ColumnTable) (a' : List ℕ) : Type 0 where
  pub due : row_answer r t ≡ Ok fetch.Row
  pub table : Regrown r t t'
  pub nulls : (k : ℕ) → k < count_of t → column_field r t k ≡ null → report_of (col t' k) ≡ slice_index_or reports k no_report
  pub whole : (k : ℕ) → k < count_of t → StandsWhole (column_field r t' k) (col t' k) a'
  pub outside : (p : ℕ) → end t ≤ p → end t' ≤ p → slice_index a' p ≡ slice_index a p
  pub host : m' ≡ record { columns = m.columns; carries = m.carries; coming = m.coming; current = m.current; bound = Some (binds t'); error = 0 }

-- it is to be refused: places, host and arena stay, and the marks are as the host reported the row
pub record Refuses (m : Meaning) (r : Row) (t : ColumnTable) (reports : List Report) (a : List ℕ) (f : Fault) (m' : Meaning) (t' : ColumnTable) (a' : List ℕ) : Type 0 where
  pub due : row_answer r t ≡ Err f
  pub places : SamePlaces t t'
  pub pairs : pairs_of t' ≡ pairs_of t
  pub reported : (k : ℕ) → k < count_of t → Reported (column_field r t k) (col t k).capacity (report_of (col t' k))
  pub told : (k : ℕ) → k < count_of t → report_of (col t' k) ≡ slice_index_or reports k no_report
  pub host : m' ≡ m
  pub same_arena : a' ≡ a

abbrev pub Settled : {X : Type 0} → Meaning → Row → ColumnTable → List Report → List ℕ → Result X Fault → Meaning → ColumnTable → List ℕ → Type 0
Settled m r t reports a (Ok x) m' t' a' = Shows m r t reports a m' t' a'
Settled m r t reports a (Err f) m' t' a' = Refuses m r t reports a f m' t' a'
