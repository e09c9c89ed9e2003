-- What fits its place.
use Rattle.std.proofs.Common.{◌≡◌, ℕ, ◌<◌, ◌≤◌, Bool, true, false, Some, None, Option, refl, ⊎_elim, arith}
use Rattle.std.proofs.lemmas.Bool.{cases_lt}
use Rattle.mysql.specs.Types.{size_of}
use Rattle.layout.specs.declared.table.ColumnTable.{ColumnTable}
use Rattle.layout.specs.Columns.{bytes_by, Over, Fits}
use Rattle.layout.specs.Tables.{count_of, col, AllFit, AllPlain, NoneLost}

fits_by : (size : Option ℕ) (capacity told : ℕ) → bytes_by size capacity ≡ capacity → (size ≡ None → told ≤ capacity) → bytes_by size told ≤ capacity
fits_by (Some size) capacity told e h = omega (arith, e)
fits_by None capacity told e h = h refl

-- a column that is no text longer than its place fits it
pub fits_unless_over : (t : ColumnTable) (k : ℕ) → k < count_of t → (Over (col t k) → ⊥) → Fits (col t k)
fits_unless_over t k l h here =
    let c = col t k in
    fits_by (size_of c.code) c.capacity c.length (t.sized k l)
    (λ (v : size_of c.code ≡ None). ⊎_elim
    (λ (o : c.capacity < c.length). absurd (h (record { variable = v; not_null = here; longer = o })))
    (λ (o : c.length ≤ c.capacity). o)
    (cases_lt c.capacity c.length))

-- a table of plain columns: all fit, and none lost a figure
pub plain_fits : (t : ColumnTable) → AllPlain t → AllFit t
plain_fits t h k l here = let c = col t k in fits_by (size_of c.code) c.capacity c.length (t.sized k l) (λ _. (h k l).room here)

pub plain_keeps : (t : ColumnTable) → AllPlain t → NoneLost t
plain_keeps t h k l lost = not_both (col t k).is_truncated (h k l).unmarked lost.marked
  where
    not_both : (b : Bool) → b ≡ false → b ≡ true → ⊥
    not_both true e f = cc
    not_both false e f = cc
