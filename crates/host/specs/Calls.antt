-- What each call does to the meaning, the arena and the reports.
use Rattle.std.specs.Prelude.{◌≡◌, ℕ, suc, ◌+◌, ◌<◌, ◌≤◌, min, Bool, true, false, cond, ◌&&◌, ◌||◌, ◌⊎◌, List, [], ◌∷◌, length, get_or, drop, Some, None, Option, ◌==◌, nat_eq, nat_le, nat_lt, slice_index, slice_index_or}
use Rattle.host.specs.declared.records.BindRecord.{BindRecord}
use Rattle.host.specs.declared.records.Report.{Report}
use Rattle.host.specs.declared.records.Fetched.{Fetched}
use Rattle.host.specs.declared.records.Fetched.TheVariants as answer
use Rattle.host.specs.declared.records.ClientError.{ClientError}
use Rattle.host.specs.declared.records.ClientError.TheVariants as why
use Rattle.host.specs.Fields.{Field, null, held}
use Rattle.host.specs.Meanings.{Row, Event, row, failure, Meaning}

-- the error numbers of MySQL's client library that calls are refused with
abbrev pub invalid_parameter : ℕ
invalid_parameter = 2034

abbrev pub unsupported_type : ℕ
unsupported_type = 2036

abbrev pub no_data : ℕ
no_data = 2051

abbrev pub number_of : ClientError → ℕ
number_of why.InvalidParameter = invalid_parameter
number_of why.UnsupportedType = unsupported_type
number_of why.NoData = no_data

-- the numbers of what a fetch answers, which are those of MySQL's C API
abbrev pub fetched_number : Fetched → ℕ
fetched_number answer.Row = 0
fetched_number answer.Failed = 1
fetched_number answer.NoData = 100
fetched_number answer.Truncated = 101

-- the same meaning but for the error number
abbrev pub with_error : ℕ → Meaning → Meaning
with_error n m = record { columns = m.columns; carries = m.carries; coming = m.coming; current = m.current; bound = m.bound; error = n }

-- binding

-- where a place ends; no place begins before the one before it ends
abbrev pub place_end : BindRecord → ℕ
place_end b = b.start + b.capacity

abbrev pub in_order : ℕ → List BindRecord → Bool
in_order from [] = true
in_order from (b ∷ bs) = nat_le from b.start && in_order (place_end b) bs

abbrev pub carried : Meaning → ℕ → List BindRecord → Bool
carried m k [] = true
carried m k (b ∷ bs) = m.carries k b.code && carried m (suc k) bs

-- the error number of a bind: 0 where it is granted
abbrev pub bind_error : Meaning → List BindRecord → ℕ
bind_error m bs =
    cond (length bs == length m.columns && in_order 0 bs)
    (cond (carried m 0 bs) 0 unsupported_type)
    invalid_parameter

abbrev pub bound_list : ℕ → List BindRecord → Option (List BindRecord) → Option (List BindRecord)
bound_list e new old = cond (e == 0) (Some new) old

abbrev pub after_bind : Meaning → List BindRecord → Meaning
after_bind m bs = record {
  columns = m.columns;
  carries = m.carries;
  coming = m.coming;
  current = m.current;
  bound = bound_list (bind_error m bs) bs m.bound;
  error = bind_error m bs;
}

-- fetching

abbrev pub all_end_by : ℕ → List BindRecord → Bool
all_end_by arena [] = true
all_end_by arena (b ∷ bs) = nat_le (place_end b) arena && all_end_by arena bs

-- whether bind list, arena length and report count allow a fetch
abbrev pub allows : Meaning → ℕ → ℕ → Bool
allows m arena reports = elim m.bound [ Some bs ↦ all_end_by arena bs && nat_eq reports (length m.columns) | None ↦ false ]

-- a record and a report past the end of a list
abbrev pub no_bind : BindRecord
no_bind = record { code = 0; unsigned = false; start = 0; capacity = 0 }

abbrev pub no_report : Report
no_report = record { length = 0; is_null = false; is_truncated = false }

-- a byte lies in a place
abbrev pub InPlace : List BindRecord → ℕ → Type 0
InPlace bs p = (k : ℕ) × (k < length bs) × ((get_or bs k no_bind).start ≤ p) × (p < place_end (slice_index_or bs k no_bind))

-- bytes outside all places are as they were
pub record Untouched (bs : List BindRecord) (before after : List ℕ) : Type 0 where
  pub same_length : length after ≡ length before
  pub same_bytes : (p : ℕ) → (InPlace bs p → ⊥) → slice_index after p ≡ slice_index before p

-- the field of a row that a bound column shows
abbrev pub field_of : Row → ℕ → BindRecord → Field
field_of r k b = r k b.code b.unsigned

-- whether a field is marked truncated where so many bytes of it were wanted
abbrev pub truncates : Field → ℕ → Bool
truncates null n = false
truncates (held lost bs) n = nat_lt n (length bs) || lost

-- What is reported of a field. Free: the length of a null.
abbrev pub Reported : Field → ℕ → Report → Type 0
Reported null n r = (r.is_null ≡ true) × (r.is_truncated ≡ false)
Reported (held lost bs) n r = (r.is_null ≡ false) × (r.length ≡ length bs) × (r.is_truncated ≡ truncates (held lost bs) n)

-- What stands of a field from a byte of the arena on, where n bytes were wanted. Free: the bytes of the place after these.
abbrev pub Stands : Field → (start n : ℕ) → List ℕ → Type 0
Stands null start n a = Unit {0}
Stands (held lost bs) start n a = (j : ℕ) → j < min n (length bs) → slice_index a (start + j) ≡ slice_index bs j

-- whether anything of a row is truncated
abbrev pub any_truncates : Row → ℕ → List BindRecord → Bool
any_truncates r k [] = false
any_truncates r k (b ∷ bs) = truncates (field_of r k b) b.capacity || any_truncates r (suc k) bs

-- a fetch that is not allowed: error 2034, and nothing else changes
pub record NotAllowed (m m' : Meaning) (reports reports' : List Report) (arena arena' : List ℕ) : Type 0 where
  pub refused : allows m (length arena) (length reports) ≡ false
  pub after : m' ≡ with_error invalid_parameter m
  pub same_reports : reports' ≡ reports
  pub same_arena : arena' ≡ arena

-- no event is left
pub record EndCame (m m' : Meaning) (reports reports' : List Report) (arena arena' : List ℕ) : Type 0 where
  pub allowed : allows m (length arena) (length reports) ≡ true
  pub none_left : m.coming ≡ []
  pub after : m' ≡ record { columns = m.columns; carries = m.carries; coming = []; current = None; bound = m.bound; error = 0 }
  pub same_reports : reports' ≡ reports
  pub same_arena : arena' ≡ arena

-- A failure was next. Free: the bytes of the places, and what the reports say.
pub record FailureCame (m m' : Meaning) (reports reports' : List Report) (arena arena' : List ℕ) : Type 0 where
  pub allowed : allows m (length arena) (length reports) ≡ true
  pub places : List BindRecord
  pub bound : m.bound ≡ Some places
  pub number : ℕ
  pub rest : List Event
  pub next : m.coming ≡ failure number ∷ rest
  pub after : m' ≡ record { columns = m.columns; carries = m.carries; coming = rest; current = None; bound = m.bound; error = number }
  pub as_many_reports : length reports' ≡ length reports
  pub untouched : Untouched places arena arena'

-- A row was next. Free: the bytes of a place after those that were written, and the length of a null.
pub record RowCame (truncated : Bool) (m m' : Meaning) (reports reports' : List Report) (arena arena' : List ℕ) : Type 0 where
  pub allowed : allows m (length arena) (length reports) ≡ true
  pub places : List BindRecord
  pub bound : m.bound ≡ Some places
  pub fields : Row
  pub rest : List Event
  pub next : m.coming ≡ row fields ∷ rest
  pub after : m' ≡ record { columns = m.columns; carries = m.carries; coming = rest; current = Some fields; bound = m.bound; error = 0 }
  pub as_many_reports : length reports' ≡ length reports
  pub reported : (k : ℕ) → k < length places → Reported (field_of fields k (slice_index_or places k no_bind)) (get_or places k no_bind).capacity (slice_index_or reports' k no_report)
  pub stands : (k : ℕ) → k < length places → Stands (field_of fields k (slice_index_or places k no_bind)) (get_or places k no_bind).start (get_or places k no_bind).capacity arena'
  pub untouched : Untouched places arena arena'
  pub marked : any_truncates fields 0 places ≡ truncated

-- what a fetch did, by its answer
abbrev pub Fetches : Fetched → (m m' : Meaning) (reports reports' : List Report) (arena arena' : List ℕ) → Type 0
Fetches answer.Row m m' rs rs' a a' = RowCame false m m' rs rs' a a'
Fetches answer.Truncated m m' rs rs' a a' = RowCame true m m' rs rs' a a'
Fetches answer.NoData m m' rs rs' a a' = EndCame m m' rs rs' a a'
Fetches answer.Failed m m' rs rs' a a' = NotAllowed m m' rs rs' a a' ⊎ FailureCame m m' rs rs' a a'

-- fetching a column once more

-- the record that a column is bound with
abbrev pub record_of : Meaning → ℕ → Option BindRecord
record_of m k = elim m.bound [ Some bs ↦ cond (nat_lt k (length bs)) (Some (slice_index_or bs k no_bind)) None | None ↦ None ]

-- the error number of a column fetch: 0 where it is granted
abbrev pub part_error : Option Row → Option BindRecord → ℕ
part_error None o = no_data
part_error (Some r) None = invalid_parameter
part_error (Some r) (Some b) = 0

-- refused: only the error number changes
pub record PartRefused (m m' : Meaning) (column : ℕ) (report report' : Report) (part part' : List ℕ) : Type 0 where
  pub error : part_error m.current (record_of m column) ≡ 0 → ⊥
  pub after : m' ≡ with_error (part_error m.current (record_of m column)) m
  pub same_report : report' ≡ report
  pub same_part : part' ≡ part

-- what is left of a field from an offset on
abbrev pub from_offset : ℕ → Field → Field
from_offset offset null = null
from_offset offset (held lost bs) = held lost (drop offset bs)

-- what a column fetch reports: as a fetch does, but truncation is about what is left after the part
abbrev pub PartReported : Field → (offset n : ℕ) → Report → Type 0
PartReported null offset n r = (r.is_null ≡ true) × (r.is_truncated ≡ false)
PartReported (held lost bs) offset n r = (r.is_null ≡ false) × (r.length ≡ length bs) × (r.is_truncated ≡ truncates (from_offset offset (held lost bs)) n)

-- Granted. Free: the bytes of the part after those that were written, and the length of a null.
pub record PartCame (m m' : Meaning) (column offset : ℕ) (report report' : Report) (part part' : List ℕ) : Type 0 where
  pub fields : Row
  pub current : m.current ≡ Some fields
  pub at : BindRecord
  pub bound : record_of m column ≡ Some at
  pub after : m' ≡ with_error 0 m
  pub reported : PartReported (field_of fields column at) offset (length part) report'
  pub stands : Stands (from_offset offset (field_of fields column at)) 0 (length part) part'
  pub as_long : length part' ≡ length part

abbrev pub Parts : Bool → (m m' : Meaning) (column offset : ℕ) (report report' : Report) (part part' : List ℕ) → Type 0
Parts true m m' column offset r r' p p' = PartCame m m' column offset r r' p p'
Parts false m m' column offset r r' p p' = PartRefused m m' column r r' p p'

-- freeing

abbrev pub freed : Meaning → Meaning
freed m = record { columns = m.columns; carries = m.carries; coming = []; current = None; bound = None; error = 0 }
