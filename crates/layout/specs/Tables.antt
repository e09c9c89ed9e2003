-- Tables of columns: the one at an opening, one with reports noted, and one whose places grew.
use Rattle.std.specs.Prelude.{◌≡◌, ℕ, ◌+◌, ◌<◌, ◌≤◌, Bool, true, false, List, [], ◌∷◌, ◌++◌, map, length, take, sum_by, Some, None, Option, ◌≢◌, slice_index_or}
use Rattle.mysql.specs.declared.bind.Column.{Column}
use Rattle.mysql.specs.Types.{size_of}
use Rattle.host.specs.declared.records.BindRecord.{BindRecord}
use Rattle.host.specs.declared.records.Report.{Report}
use Rattle.host.specs.Calls.{no_report}
use Rattle.layout.specs.declared.record.ColumnRecord.{ColumnRecord}
use Rattle.layout.specs.declared.table.ColumnTable.{ColumnTable}
use Rattle.layout.specs.Columns.{no_record, bind_of, total, wanted, sum, noted, moved, Fits, Lost, Plain}

-- the columns of a table: as many as it counts, at the front of its array
abbrev pub items : ColumnTable → List ColumnRecord
items t = take t.count t.columns

-- how many columns a table has, a column of it, where that begins, and where the places end
abbrev pub count_of : ColumnTable → ℕ
count_of t = length (items t)

abbrev pub col : ColumnTable → ℕ → ColumnRecord
col t k = slice_index_or (items t) k no_record

abbrev pub start : ColumnTable → ℕ → ℕ
start t k = (col t k).start

abbrev pub end : ColumnTable → ℕ
end t = total (items t)

-- what the host is told of all columns
abbrev pub binds : ColumnTable → List BindRecord
binds t = map bind_of (items t)

-- what all columns want
abbrev pub sum_of : Bool → ColumnTable → ℕ
sum_of tight t = sum tight (items t)

-- the need of the row that was reported
abbrev pub need : ColumnTable → ℕ
need t = sum_of true t

-- a table with one column more, whose place begins where those of the others end
pub record Added (c : ColumnRecord) (old new : ColumnTable) : Type 0 where
  pub columns : items new ≡ items old ++ moved c (end old) c.capacity ∷ []
  pub room : new.room ≡ old.room
  pub ends : end new ≡ end old + c.capacity

-- the opening

-- a fixed place has its size, a variable one a byte
abbrev pub first_capacity : Option ℕ → ℕ
first_capacity (Some size) = size
first_capacity None = 1

-- how many bytes the places of bound columns take at an opening
abbrev pub opening_size : List Column → ℕ
opening_size cs = sum_by (λ c. first_capacity (size_of c.code)) cs

-- a column past the last
abbrev pub no_pair : Column
no_pair = record { code = 0; flags = 0 }

-- nothing is reported of a column yet
abbrev pub first_record : Column → (start : ℕ) → ColumnRecord
first_record c at = record { code = c.code; flags = c.flags; start = at; capacity = first_capacity (size_of c.code); length = 0; is_null = false; is_truncated = false }

-- the table of columns that are bound with these codes and flags, in an arena of this length
pub record OpeningTable (pairs : List Column) (room : ℕ) (t : ColumnTable) : Type 0 where
  pub as_many : count_of t ≡ length pairs
  pub same_room : t.room ≡ room
  pub ends : end t ≡ opening_size pairs
  pub each : (k : ℕ) → k < length pairs → col t k ≡ first_record (slice_index_or pairs k no_pair) (start t k)

-- There is none where there are over 64 columns, or the arena is over 65,536 bytes long or shorter than the places. Free: which columns the
-- table has then.
pub record NoOpening (pairs : List Column) (room : ℕ) : Type 0 where
  pub why : length pairs ≤ 64 → room ≤ 65536 → room < opening_size pairs

abbrev pub LaysOut : {X : Type 0} → List Column → ℕ → Option X → ColumnTable → Type 0
LaysOut pairs room None t = NoOpening pairs room
LaysOut pairs room (Some x) t = OpeningTable pairs room t

-- reports

-- reports are noted from the first column on, as many as there are columns for them; a column without one stays, and so does all else
pub record Noted (old : ColumnTable) (reports : List Report) (new : ColumnTable) : Type 0 where
  pub count : count_of new ≡ count_of old
  pub room : new.room ≡ old.room
  pub each : (k : ℕ) → k < count_of old → k < length reports → col new k ≡ noted (col old k) (slice_index_or reports k no_report)
  pub others : (k : ℕ) → length reports ≤ k → col new k ≡ col old k

-- the report of column i is noted, where there is such a column, and nothing else changed
pub record NotedAt (i : ℕ) (old : ColumnTable) (report : Report) (new : ColumnTable) : Type 0 where
  pub count : count_of new ≡ count_of old
  pub room : new.room ≡ old.room
  pub here : i < count_of old → col new i ≡ noted (col old i) report
  pub past : count_of old ≤ i → col new i ≡ col old i
  pub others : (k : ℕ) → (k ≢ i) → col new k ≡ col old k

-- the places are as they were
pub record SamePlaces (old new : ColumnTable) : Type 0 where
  pub count : count_of new ≡ count_of old
  pub room : new.room ≡ old.room
  pub binds_same : binds new ≡ binds old
  pub end_same : end new ≡ end old

-- what was reported of each column fits its place
abbrev pub AllFit : ColumnTable → Type 0
AllFit t = (k : ℕ) → k < count_of t → Fits (col t k)

-- all columns are plain
abbrev pub AllPlain : ColumnTable → Type 0
AllPlain t = (k : ℕ) → k < count_of t → Plain (col t k)

-- no figure of a fixed column was lost
abbrev pub NoneLost : ColumnTable → Type 0
NoneLost t = (k : ℕ) → k < count_of t → Lost (col t k) → ⊥

-- a column of which a figure was lost, and none before it
pub record LowestLost (t : ColumnTable) (i : ℕ) : Type 0 where
  pub within : i < count_of t
  pub lost : Lost (col t i)
  pub lowest : (k : ℕ) → k < i → Lost (col t k) → ⊥

-- growth

-- the same columns with the capacities that they want
pub record Relaid (tight : Bool) (old new : ColumnTable) : Type 0 where
  pub count : count_of new ≡ count_of old
  pub room : new.room ≡ old.room
  pub each : (k : ℕ) → k < count_of old → col new k ≡ moved (col old k) (start new k) (wanted tight (col old k))

-- Where the need is at most the arena's length: wide, and tight where the wide layout is longer than the arena.
pub record Grown (old new : ColumnTable) : Type 0 where
  pub enough : need old ≤ old.room
  pub tight : Bool
  pub laid : Relaid tight old new
  pub rule_tight : tight ≡ true → old.room < sum_of false old
  pub rule_wide : tight ≡ false → sum_of false old ≤ old.room
