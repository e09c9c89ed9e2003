-- What stays of the arena's bytes when the places of a table grow.
use Rattle.std.specs.Prelude.{◌≡◌, ℕ, ◌+◌, ◌<◌, ◌≤◌, List, length, Some, None, Option, slice_index}
use Rattle.layout.specs.declared.table.ColumnTable.{ColumnTable}
use Rattle.layout.specs.Columns.{kept}
use Rattle.layout.specs.Tables.{count_of, col, start, end, need, Grown}

-- bytes from n on are as they were
abbrev pub Beyond : ℕ → List ℕ → List ℕ → Type 0
Beyond n a b = (p : ℕ) → n ≤ p → slice_index b p ≡ slice_index a p

-- the kept bytes of each column stood at `from` in a, and stand at `to` in b
abbrev pub Carried : ColumnTable → (from to : ℕ → ℕ) → List ℕ → List ℕ → Type 0
Carried t from to a b = (k : ℕ) → k < count_of t → (j : ℕ) → j < kept (col t k) → slice_index b (to k + j) ≡ slice_index a (from k + j)

-- the places grew, and the kept bytes moved along; past the new places nothing changed
pub record Moved (old : ColumnTable) (a : List ℕ) (new : ColumnTable) (b : List ℕ) : Type 0 where
  pub long : old.room ≤ length a
  pub grown : Grown old new
  pub carried : Carried old (start old) (start new) a b
  pub beyond : Beyond (end new) a b

-- Refused: the row needs more than there is, or the arena is shorter than the table says; the arena is as it was. Free: which columns the new
-- table has then.
pub record NotMoved (old : ColumnTable) (a b : List ℕ) : Type 0 where
  pub why : old.room ≤ length a → old.room < need old
  pub same : b ≡ a

abbrev pub Grows : {X : Type 0} → ColumnTable → List ℕ → Option X → ColumnTable → List ℕ → Type 0
Grows old a None new b = NotMoved old a b
Grows old a (Some x) new b = Moved old a new b
