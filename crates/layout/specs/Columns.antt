-- What a column's record says of its place: how the places of a table lie, how many of a column's bytes stand in its place, what the
-- need counts of it, and the capacity that it gets when places grow.
use Rattle.std.specs.Prelude.{◌≡◌, ℕ, ◌<◌, ◌≤◌, min, max, Bool, true, false, List, length, take, sum_by, Some, None, Option, slice_index_or}
use Rattle.mysql.specs.Types.{has, size_of}
use Rattle.host.specs.declared.records.BindRecord.{BindRecord}
use Rattle.host.specs.declared.records.Report.{Report}
use Rattle.layout.specs.declared.record.ColumnRecord.{ColumnRecord}

-- a record past the last
abbrev pub no_record : ColumnRecord
no_record = record { code = 0; flags = 0; start = 0; capacity = 0; length = 0; is_null = false; is_truncated = false }

-- what the host is told of a column: flag 32 of its flags is the sign
abbrev pub bind_of : ColumnRecord → BindRecord
bind_of c = record { code = c.code; unsigned = has c.flags 32; start = c.start; capacity = c.capacity }

-- the capacities of columns, added up
abbrev pub total : List ColumnRecord → ℕ
total cs = sum_by (λ c. c.capacity) cs

-- where the first n places end
abbrev pub span : ℕ → List ColumnRecord → ℕ
span n cs = total (take n cs)

-- each place begins where those before it end
abbrev pub Lies : List ColumnRecord → Type 0
Lies cs = (k : ℕ) → k < length cs → (slice_index_or cs k no_record).start ≡ span k cs

-- each has a byte at least
abbrev pub SomeRoom : List ColumnRecord → Type 0
SomeRoom cs = (k : ℕ) → k < length cs → 1 ≤ (slice_index_or cs k no_record).capacity

-- how many bytes a value has: at a fixed code its size, whatever was reported, elsewhere the reported length
abbrev pub bytes_by : Option ℕ → ℕ → ℕ
bytes_by (Some size) told = size
bytes_by None told = told

-- each place of a fixed code has its size
abbrev pub Sized : List ColumnRecord → Type 0
Sized cs = (k : ℕ) → k < length cs → bytes_by (size_of (slice_index_or cs k no_record).code) (slice_index_or cs k no_record).capacity ≡ (slice_index_or cs k no_record).capacity

abbrev pub bytes_of : ColumnRecord → ℕ
bytes_of c = bytes_by (size_of c.code) c.length

-- how many of them stand in the place: none of a null
abbrev pub kept_if : Bool → ℕ → ℕ → ℕ
kept_if true capacity bytes = 0
kept_if false capacity bytes = min capacity bytes

abbrev pub kept : ColumnRecord → ℕ
kept c = kept_if c.is_null c.capacity (bytes_of c)

-- What the need counts of a column: its fixed size, or its length and a byte at least; a null counts one byte, whatever length was
-- reported of it.
abbrev pub counted : Option ℕ → Bool → ℕ → ℕ
counted (Some size) null told = size
counted None true told = 1
counted None false told = max 1 told

-- The capacity that a column gets where there is room enough: a text that is longer than its place gets its length, any other column
-- keeps what it has.
abbrev pub widened : Option ℕ → Bool → (capacity told : ℕ) → ℕ
widened (Some size) null capacity told = capacity
widened None true capacity told = capacity
widened None false capacity told = max capacity told

-- the capacity that a column gets: in a tight layout what the need counts, else as above
abbrev pub wanted : Bool → ColumnRecord → ℕ
wanted true c = counted (size_of c.code) c.is_null c.length
wanted false c = widened (size_of c.code) c.is_null c.capacity c.length

abbrev pub sum : Bool → List ColumnRecord → ℕ
sum tight cs = sum_by (wanted tight) cs

-- a closure that gives columns capacities gives each the one of a tight layout, or each the one of a wide layout
abbrev pub RuleOf : (ColumnRecord → ℕ → Type 0) → Bool → Type 0
RuleOf gives tight = (c : ColumnRecord) (n : ℕ) → gives c n → n ≡ wanted tight c

-- a text is longer than its place
pub record Over (c : ColumnRecord) : Type 0 where
  pub variable : size_of c.code ≡ None
  pub not_null : c.is_null ≡ false
  pub longer : c.capacity < c.length

-- what was reported of a column fits its place
abbrev pub Fits : ColumnRecord → Type 0
Fits c = c.is_null ≡ false → bytes_of c ≤ c.capacity

-- a figure of a fixed column was lost: it is marked truncated
pub record Lost (c : ColumnRecord) : Type 0 where
  pub size : ℕ
  pub fixed : size_of c.code ≡ Some size
  pub marked : c.is_truncated ≡ true

-- a column is plain: not marked truncated, and null or no longer than its place
pub record Plain (c : ColumnRecord) : Type 0 where
  pub unmarked : c.is_truncated ≡ false
  pub room : c.is_null ≡ false → c.length ≤ c.capacity

-- a record with what a host reported of its column
abbrev pub noted : ColumnRecord → Report → ColumnRecord
noted c r = record { code = c.code; flags = c.flags; start = c.start; capacity = c.capacity; length = r.length; is_null = r.is_null; is_truncated = r.is_truncated }

-- a record with another place
abbrev pub moved : ColumnRecord → (start capacity : ℕ) → ColumnRecord
moved c at n = record { code = c.code; flags = c.flags; start = at; capacity = n; length = c.length; is_null = c.is_null; is_truncated = c.is_truncated }
