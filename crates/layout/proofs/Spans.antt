-- How places lie that follow one another.
use Rattle.std.proofs.Common.{◌≡◌, ℕ, ◌+◌, ◌<◌, ◌≤◌, Bool, true, false, List, length, get_or, take, ap, arith}
use Rattle.std.proofs.lemmas.List.{get_or-take, length-take, take-take, take_all}
use Rattle.std.proofs.lemmas.List.Sums.{sum_by_more_le}
use Rattle.layout.specs.declared.record.ColumnRecord.{ColumnRecord}
use Rattle.layout.specs.declared.table.ColumnTable.{ColumnTable}
use Rattle.layout.specs.Columns.{no_record, total, span, kept, kept_if, bytes_of}
use Rattle.layout.specs.Tables.{items, count_of, col, start, end}

abbrev pub capacity : ColumnRecord → ℕ
capacity c = c.capacity

-- a later span holds an earlier one, and the place after it
pub span_grows : (cs : List ColumnRecord) (i k : ℕ) → i < k → i < length cs → span i cs + (get_or cs i no_record).capacity ≤ span k cs
span_grows cs i k l m =
    let n : i < length (take k cs) = simp length-take (omega arith) in
    omega (arith, sum_by_more_le capacity (take k cs) i no_record n, ap total (take-take i k cs (omega arith)), ap capacity (get_or-take k cs i no_record l))

-- the last span is the sum
pub span_all : (cs : List ColumnRecord) (n : ℕ) → length cs ≤ n → span n cs ≡ total cs
span_all cs n l = ap total (take_all n cs l)

kept_if_le : (null : Bool) (capacity bytes : ℕ) → kept_if null capacity bytes ≤ capacity
kept_if_le true capacity bytes = omega arith
kept_if_le false capacity bytes = omega arith

pub kept_le : (c : ColumnRecord) → kept c ≤ c.capacity
kept_le c = kept_if_le c.is_null c.capacity (bytes_of c)

module _ (t : ColumnTable) where
  -- a table has as many columns as it counts
  pub count_is : count_of t ≡ t.count
  count_is = omega (arith, t.array, t.few, length-take t.count t.columns)

  -- a place ends where a later one begins, or before
  pub apart : (i k : ℕ) → i < k → k < count_of t → start t i + (col t i).capacity ≤ start t k
  apart i k l m = omega (arith, t.laid i (omega arith), t.laid k m, span_grows (items t) i k l (omega arith))

  -- and the places end where the last one does
  pub inside : (k : ℕ) → k < count_of t → start t k + (col t k).capacity ≤ end t
  inside k l = omega (arith, t.laid k l, span_grows (items t) k (count_of t) l l, span_all (items t) (count_of t) (omega arith))

  pub end_in_room : end t ≤ t.room
  end_in_room = t.within
