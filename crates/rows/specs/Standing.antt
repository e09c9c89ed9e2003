-- How a row stands in the places of a table: what a column's record says of its field, and the capacities that a row leaves.
use Rattle.std.specs.Prelude.{◌≡◌, ℕ, suc, ◌+◌, ◌<◌, true, false, cond, List, [], ◌∷◌, map, length, Some, None, Option, nat_le, nat_lt, slice_index}
use Rattle.mysql.specs.declared.bind.Column.{Column}
use Rattle.mysql.specs.Types.{size_of}
use Rattle.host.specs.declared.records.Report.{Report}
use Rattle.host.specs.Fields.{Field, null, held}
use Rattle.host.specs.Meanings.{Row}
use Rattle.host.specs.Calls.{Reported}
use Rattle.layout.specs.declared.record.ColumnRecord.{ColumnRecord}
use Rattle.layout.specs.declared.table.ColumnTable.{ColumnTable}
use Rattle.layout.specs.Columns.{bytes_of}
use Rattle.layout.specs.Tables.{items, count_of, col}
use Rattle.rows.specs.Bounds.{field_at, field_need}

-- the code and flags that a column of a table is bound with
abbrev pub pair_of : ColumnRecord → Column
pair_of c = record { code = c.code; flags = c.flags }

abbrev pub pairs_of : ColumnTable → List Column
pairs_of t = map pair_of (items t)

-- what was last reported of a column
abbrev pub report_of : ColumnRecord → Report
report_of c = record { length = c.length; is_null = c.is_null; is_truncated = c.is_truncated }

-- a field stands whole in a column's place: a null is marked; any other has all its bytes there, in order
abbrev pub StandsWhole : Field → ColumnRecord → List ℕ → Type 0
StandsWhole null c a = c.is_null ≡ true
StandsWhole (held lost bs) c a = (c.is_null ≡ false) × (bytes_of c ≡ length bs) × ((j : ℕ) → j < length bs → slice_index a (c.start + j) ≡ slice_index bs j)

-- how places grow: a truncated column gets its length as capacity, any other keeps its own
abbrev pub widened_to : Option ℕ → Field → (capacity : ℕ) → ℕ
widened_to (Some size) f capacity = capacity
widened_to None null capacity = capacity
widened_to None (held lost bs) capacity = cond (nat_lt capacity (length bs)) (length bs) capacity

abbrev pub wide_sum : Row → ℕ → List ColumnRecord → ℕ
wide_sum r k [] = 0
wide_sum r k (c ∷ cs) = widened_to (size_of c.code) (field_at r k (pair_of c)) c.capacity + wide_sum r (suc k) cs

-- where that sum exceeds the arena, each column gets what the need counts
abbrev pub capacity_after : Row → ColumnTable → ℕ → ℕ
capacity_after r t k =
    cond (nat_le (wide_sum r 0 (items t)) t.room)
    (widened_to (size_of (col t k).code) (field_at r k (pair_of (col t k))) (col t k).capacity)
    (field_need (size_of (col t k).code) (field_at r k (pair_of (col t k))))

-- a table after a row was shown: the marks are as the host last reported them
pub record Regrown (r : Row) (t t' : ColumnTable) : Type 0 where
  pub count : count_of t' ≡ count_of t
  pub room : t'.room ≡ t.room
  pub pairs : pairs_of t' ≡ pairs_of t
  pub capacities : (k : ℕ) → k < count_of t → (col t' k).capacity ≡ capacity_after r t k
  pub reported : (k : ℕ) → k < count_of t → Reported (field_at r k (pair_of (col t k))) (col t' k).capacity (report_of (col t' k))
