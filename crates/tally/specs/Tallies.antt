-- A count of what a host has to come: how many rows and failures, and how many nulls and bytes the rows have, each column at its own
-- code and sign. Each count stops at 2^64 - 1.
use Rattle.std.specs.Prelude.{◌≡◌, ℕ, suc, ◌+◌, ◌-◌, ◌^◌, min, true, false, List, [], ◌∷◌, map, length, Some, None, Option}
use Rattle.mysql.specs.declared.bind.Column.{Column}
use Rattle.mysql.specs.Types.{has}
use Rattle.host.specs.declared.records.BindRecord.{BindRecord}
use Rattle.host.specs.Fields.{Field, null, held}
use Rattle.host.specs.Meanings.{Row, Event, row, failure, Meaning}
use Rattle.host.specs.Calls.{unsupported_type, with_error, carried, field_of}
use Rattle.tally.specs.declared.totals.Totals.{Totals}

-- a column at its own code and sign (flag 32: without), with no room for its bytes
abbrev pub own_record : Column → BindRecord
own_record c = record { code = c.code; unsigned = has c.flags 32; start = 0; capacity = 0 }

abbrev pub own_records : List Column → List BindRecord
own_records cs = map own_record cs

-- what one field counts for
abbrev pub null_count : Field → ℕ
null_count null = 1
null_count (held lost bs) = 0

abbrev pub byte_count : Field → ℕ
byte_count null = 0
byte_count (held lost bs) = length bs

-- a sum over the bound columns of a row, from column k on
abbrev pub row_sum : (Field → ℕ) → Row → ℕ → List BindRecord → ℕ
row_sum f r k [] = 0
row_sum f r k (b ∷ bs) = f (field_of r k b) + row_sum f r (suc k) bs

-- how much of something the events have
abbrev pub rows_in : List Event → ℕ
rows_in [] = 0
rows_in (row r ∷ es) = 1 + rows_in es
rows_in (failure n ∷ es) = rows_in es

abbrev pub failures_in : List Event → ℕ
failures_in [] = 0
failures_in (row r ∷ es) = failures_in es
failures_in (failure n ∷ es) = 1 + failures_in es

abbrev pub fields_in : (Field → ℕ) → List BindRecord → List Event → ℕ
fields_in f bs [] = 0
fields_in f bs (row r ∷ es) = row_sum f r 0 bs + fields_in f bs es
fields_in f bs (failure n ∷ es) = fields_in f bs es

abbrev pub capped : ℕ → ℕ
capped n = min n (2 ^ 64 - 1)

abbrev pub counted : Meaning → Totals
counted m = record {
  rows = capped (rows_in m.coming);
  failures = capped (failures_in m.coming);
  nulls = capped (fields_in null_count (own_records m.columns) m.coming);
  bytes = capped (fields_in byte_count (own_records m.columns) m.coming);
}

-- every event was fetched, and the columns stay bound as they were counted
abbrev pub emptied : Meaning → Meaning
emptied m = record { columns = m.columns; carries = m.carries; coming = []; current = None; bound = Some (own_records m.columns); error = 0 }

-- there is a count exactly where each column carries its own code; elsewhere only the error number changes
pub record Counts (t : Totals) (m m' : Meaning) : Type 0 where
  pub carries : carried m 0 (own_records m.columns) ≡ true
  pub is : t ≡ counted m
  pub after : m' ≡ emptied m

pub record NoCount (m m' : Meaning) : Type 0 where
  pub lacks : carried m 0 (own_records m.columns) ≡ false
  pub after : m' ≡ with_error unsupported_type m

abbrev pub Tallied : Option Totals → (m m' : Meaning) → Type 0
Tallied (Some t) m m' = Counts t m m'
Tallied None m m' = NoCount m m'
