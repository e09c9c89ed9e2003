-- The capacity that a column gets when places grow.
use Rattle.std.proofs.Common.{◌≡◌, ℕ, ◌<◌, ◌≤◌, Bool, true, false, List, get_or, Some, None, Option, sym, refl, ap, ◌∙◌, subst, arith}
use Rattle.mysql.specs.Types.{size_of}
use Rattle.layout.specs.declared.record.ColumnRecord.{ColumnRecord}
use Rattle.layout.specs.declared.table.ColumnTable.{ColumnTable}
use Rattle.layout.specs.Columns.{no_record, moved, bytes_by, bytes_of, kept, kept_if, counted, widened, wanted, Over, Fits}
use Rattle.layout.specs.Tables.{items, count_of, col, need, sum_of, AllFit, Grown, end}
use Rattle.layout.proofs.Adding.{sum_le, sum_total}

-- where a fixed place has its size

some_counted : (size : Option ℕ) (null : Bool) (capacity told : ℕ) → bytes_by size capacity ≡ capacity → 1 ≤ capacity → 1 ≤ counted size null told
some_counted (Some size) null capacity told e h = omega (arith, e)
some_counted None true capacity told e h = omega arith
some_counted None false capacity told e h = omega arith

some_widened : (size : Option ℕ) (null : Bool) (capacity told : ℕ) → 1 ≤ capacity → 1 ≤ widened size null capacity told
some_widened (Some size) null capacity told h = h
some_widened None true capacity told h = h
some_widened None false capacity told h = omega arith

-- a column gets a byte at least
pub wanted_some : (tight : Bool) (c : ColumnRecord) → bytes_by (size_of c.code) c.capacity ≡ c.capacity → 1 ≤ c.capacity → 1 ≤ wanted tight c
wanted_some true c e h = some_counted (size_of c.code) c.is_null c.capacity c.length e h
wanted_some false c e h = some_widened (size_of c.code) c.is_null c.capacity c.length h

sized_counted : (size : Option ℕ) (null : Bool) (told : ℕ) → bytes_by size (counted size null told) ≡ counted size null told
sized_counted (Some size) null told = refl
sized_counted None true told = refl
sized_counted None false told = refl

sized_widened : (size : Option ℕ) (null : Bool) (capacity told : ℕ) → bytes_by size capacity ≡ capacity → bytes_by size (widened size null capacity told) ≡ widened size null capacity told
sized_widened (Some size) null capacity told e = e
sized_widened None true capacity told e = refl
sized_widened None false capacity told e = refl

-- a fixed one keeps its size
pub wanted_sized : (tight : Bool) (c : ColumnRecord) → bytes_by (size_of c.code) c.capacity ≡ c.capacity → bytes_by (size_of c.code) (wanted tight c) ≡ wanted tight c
wanted_sized true c e = sized_counted (size_of c.code) c.is_null c.length
wanted_sized false c e = sized_widened (size_of c.code) c.is_null c.capacity c.length e

counted_widened : (size : Option ℕ) (null : Bool) (capacity told : ℕ) → bytes_by size capacity ≡ capacity → 1 ≤ capacity → counted size null told ≤ widened size null capacity told
counted_widened (Some size) null capacity told e h = omega (arith, e)
counted_widened None true capacity told e h = omega arith
counted_widened None false capacity told e h = omega arith

-- a wide layout takes no less than a tight one
pub need_wide : (t : ColumnTable) → need t ≤ sum_of false t
need_wide t = sum_le (items t)
    (λ k l. let c = col t k in counted_widened (size_of c.code) c.is_null c.capacity c.length (t.sized k l) (t.roomy k l))

counted_fits : (size : Option ℕ) (null : Bool) (capacity told : ℕ) → bytes_by size capacity ≡ capacity → 1 ≤ capacity → (null ≡ false → bytes_by size told ≤ capacity) → counted size null told ≤ capacity
counted_fits (Some size) null capacity told e h f = omega (arith, e)
counted_fits None true capacity told e h f = h
counted_fits None false capacity told e h f = omega (arith, f refl)

-- where each column fits its place, the need is at most what the places take, and so the arena's length
pub need_end : (t : ColumnTable) → AllFit t → need t ≤ end t
need_end t f = sum_total true (items t)
    (λ k l. let c = col t k in counted_fits (size_of c.code) c.is_null c.capacity c.length (t.sized k l) (t.roomy k l) (f k l))

pub fits_need : (t : ColumnTable) → AllFit t → need t ≤ t.room
fits_need t f = let w = t.within in omega (arith, need_end t f)

-- and a wide layout is the one that is there
widened_fits : (size : Option ℕ) (null : Bool) (capacity told : ℕ) → (null ≡ false → bytes_by size told ≤ capacity) → widened size null capacity told ≡ capacity
widened_fits (Some size) null capacity told f = refl
widened_fits None true capacity told f = refl
widened_fits None false capacity told f = omega (arith, f refl)

pub fits_wide : (c : ColumnRecord) → Fits c → wanted false c ≡ c.capacity
fits_wide c f = widened_fits (size_of c.code) c.is_null c.capacity c.length f

pub fits_sum : (t : ColumnTable) → AllFit t → sum_of false t ≤ t.room
fits_sum t f = let w = t.within in omega (arith, sum_total false (items t) (λ k l. omega (arith, fits_wide (col t k) (f k l))))

-- what a column keeps has room in what it gets

kept_counted : (size : Option ℕ) (null : Bool) (capacity told : ℕ) → kept_if null capacity (bytes_by size told) ≤ counted size null told
kept_counted (Some size) true capacity told = omega arith
kept_counted (Some size) false capacity told = omega arith
kept_counted None true capacity told = omega arith
kept_counted None false capacity told = omega arith

kept_widened : (size : Option ℕ) (null : Bool) (capacity told : ℕ) → kept_if null capacity (bytes_by size told) ≤ widened size null capacity told
kept_widened (Some size) true capacity told = omega arith
kept_widened (Some size) false capacity told = omega arith
kept_widened None true capacity told = omega arith
kept_widened None false capacity told = omega arith

kept_wanted : (tight : Bool) (c : ColumnRecord) → kept c ≤ wanted tight c
kept_wanted true c = kept_counted (size_of c.code) c.is_null c.capacity c.length
kept_wanted false c = kept_widened (size_of c.code) c.is_null c.capacity c.length

-- a text that is longer than its place gets its length

over_wanted : (tight : Bool) (c : ColumnRecord) → Over c → wanted tight c ≡ c.length
over_wanted true c o = let l = o.longer in rw (o.variable, o.not_null) (omega arith)
over_wanted false c o = let l = o.longer in rw (o.variable, o.not_null) (omega arith)

-- the bytes of what is no null have room in what the column gets

bytes_counted : (size : Option ℕ) (null : Bool) (told : ℕ) → null ≡ false → bytes_by size told ≤ counted size null told
bytes_counted (Some size) null told n = omega arith
bytes_counted None true told n = absurd cc
bytes_counted None false told n = omega arith

bytes_widened : (size : Option ℕ) (null : Bool) (capacity told : ℕ) → bytes_by size capacity ≡ capacity → null ≡ false → bytes_by size told ≤ widened size null capacity told
bytes_widened (Some size) null capacity told e n = omega (arith, e)
bytes_widened None true capacity told e n = absurd cc
bytes_widened None false capacity told e n = omega arith

bytes_wanted : (tight : Bool) (c : ColumnRecord) → bytes_by (size_of c.code) c.capacity ≡ c.capacity → c.is_null ≡ false → bytes_of c ≤ wanted tight c
bytes_wanted true c e n = bytes_counted (size_of c.code) c.is_null c.length n
bytes_wanted false c e n = bytes_widened (size_of c.code) c.is_null c.capacity c.length e n

module _ (old new : ColumnTable) (g : Grown old new) (k : ℕ) (l : k < count_of old) where
  pub new_capacity : (col new k).capacity ≡ wanted g.tight (col old k)
  new_capacity = ap (λ (z : ColumnRecord). z.capacity) (g.laid.each k l)

  pub new_kept : kept (col old k) ≤ (col new k).capacity
  new_kept = omega (arith, new_capacity, kept_wanted g.tight (col old k))

  pub new_over : Over (col old k) → (col new k).capacity ≡ (col old k).length
  new_over o = new_capacity ∙ over_wanted g.tight (col old k) o

  -- so what was reported fits the new place
  pub new_bytes : (col old k).is_null ≡ false → bytes_of (col old k) ≤ (col new k).capacity
  new_bytes n = omega (arith, new_capacity, bytes_wanted g.tight (col old k) (old.sized k l) n)

-- a column of a list that is the table's, and the capacity that it gets
module _ (t : ColumnTable) (cs : List ColumnRecord) (e : cs ≡ (items t)) (i : ℕ) (l : i < count_of t) (tight : Bool) (n : ℕ) (w : n ≡ wanted tight (get_or cs i no_record)) where
  pub is_col : get_or cs i no_record ≡ col t i
  is_col = ap (λ (z : List ColumnRecord). get_or z i no_record) e

  pub gets : n ≡ wanted tight (col t i)
  gets = w ∙ ap (wanted tight) is_col

  pub gets_some : 1 ≤ n
  gets_some = omega (arith, gets, wanted_some tight (col t i) (t.sized i l) (t.roomy i l))

  pub gets_sized : bytes_by (size_of (get_or cs i no_record).code) n ≡ n
  gets_sized =
      subst (λ (z : ColumnRecord). bytes_by (size_of z.code) n ≡ n) (sym is_col)
      (subst (λ (z : ℕ). bytes_by (size_of (col t i).code) z ≡ z) (sym gets) (wanted_sized tight (col t i) (t.sized i l)))

  pub gets_moved : (at : ℕ) → moved (get_or cs i no_record) at n ≡ moved (col t i) at (wanted tight (col t i))
  gets_moved at = ap (λ (z : ColumnRecord). moved z at n) is_col ∙ ap (moved (col t i) at) gets
