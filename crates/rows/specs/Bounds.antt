-- Bound columns: the code and flags that each column of a result is bound with, and what a row is to columns so bound. Nothing here
-- speaks of places, capacities or earlier rows.
use Rattle.std.specs.Prelude.{ℕ, suc, ◌+◌, max, Bool, true, false, cond, ◌&&◌, List, [], ◌∷◌, length, Some, None, Ok, Err, Option, Result, slice_index_or}
use Rattle.mysql.specs.declared.backend.MysqlType.{MysqlType}
use Rattle.mysql.specs.declared.bind.Column.{Column}
use Rattle.mysql.specs.declared.fault.Fault.{Fault}
use Rattle.mysql.specs.Answers.{through}
use Rattle.mysql.specs.Faults.{at_column}
use Rattle.mysql.specs.Taken.{taken_pair}
use Rattle.mysql.specs.Types.{has, size_of}
use Rattle.host.specs.Fields.{Field, null, held}
use Rattle.host.specs.Meanings.{Row}

-- a list of wanted types has none for the columns past its end
abbrev pub wanted_of : List (Option MysqlType) → ℕ → Option MysqlType
wanted_of wanted k = slice_index_or wanted k None

-- a bound column, before the others
abbrev pub with_pair : ℕ → Result (ℕ × ℕ) Fault → Result (List Column) Fault → Result (List Column) Fault
with_pair k (Ok p) rest = through (λ ps. record { code = p.0; flags = p.1 } ∷ ps) rest
with_pair k (Err f) rest = Err (at_column f k)

-- the codes and flags that columns are bound with, counted from k on, or refusal 7 at the lowest column whose flags are not known
abbrev pub bound_from : List (Option MysqlType) → ℕ → List Column → Result (List Column) Fault
bound_from wanted k [] = Ok []
bound_from wanted k (c ∷ cs) = with_pair k (taken_pair (wanted_of wanted k) c.code c.flags) (bound_from wanted (suc k) cs)

abbrev pub bound : List (Option MysqlType) → List Column → Result (List Column) Fault
bound wanted columns = bound_from wanted 0 columns

-- whether a bound column has no sign: flag 32
abbrev pub unsigned : Column → Bool
unsigned c = has c.flags 32

-- whether each column can be asked for at the code that it is bound with
abbrev pub all_carried : ((column code : ℕ) → Bool) → ℕ → List Column → Bool
all_carried carries k [] = true
all_carried carries k (c ∷ cs) = carries k c.code && all_carried carries (suc k) cs

-- what a row has in a column, at the code and sign that it is bound with
abbrev pub field_at : Row → ℕ → Column → Field
field_at r k c = r k c.code (unsigned c)

-- what the need counts of a field: the fixed size, or the length and a byte at least; a null counts 1
abbrev pub field_need : Option ℕ → Field → ℕ
field_need (Some size) f = size
field_need None null = 1
field_need None (held lost bs) = max 1 (length bs)

abbrev pub row_need : Row → ℕ → List Column → ℕ
row_need r k [] = 0
row_need r k (c ∷ cs) = field_need (size_of c.code) (field_at r k c) + row_need r (suc k) cs

-- a figure is lost where a field of a fixed column has a loss mark
abbrev pub loses : Option ℕ → Field → Bool
loses None f = false
loses (Some size) null = false
loses (Some size) (held lost bs) = lost

-- the lowest column of a row that loses a figure
abbrev pub first_loss : Row → ℕ → List Column → Option ℕ
first_loss r k [] = None
first_loss r k (c ∷ cs) = cond (loses (size_of c.code) (field_at r k c)) (Some k) (first_loss r (suc k) cs)
