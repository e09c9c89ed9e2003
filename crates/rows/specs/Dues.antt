-- What each call has to answer: an opening by the columns, the wanted types, the carried codes and the arena's length; a fetch by the
-- bound columns, the arena's length and the next event; a reading by the bound columns and the row that is shown.
use Rattle.std.specs.Prelude.{ℕ, Bool, true, false, cond, List, [], ◌∷◌, length, Some, None, Ok, Err, Option, Result, nat_lt, slice_index_or}
use Rattle.mysql.specs.declared.backend.MysqlType.{MysqlType}
use Rattle.mysql.specs.declared.bind.Column.{Column}
use Rattle.mysql.specs.declared.fault.Fault.{Fault}
use Rattle.mysql.specs.declared.fault.Refusal.TheVariants.{AlreadyOpened, ArenaLength, NoSuchColumn, NoCurrentRow, LayoutTooLong, NumericOverflow, NoRoom, UnexpectedNull}
use Rattle.mysql.specs.Answers.{next}
use Rattle.mysql.specs.Faults.{refused, host_failed, at_column}
use Rattle.mysql.specs.Types.{type_of}
use Rattle.host.specs.Fields.{Field, null, held}
use Rattle.host.specs.Meanings.{Row, Event, row, failure}
use Rattle.host.specs.Calls.{unsupported_type}
use Rattle.layout.specs.Tables.{opening_size, no_pair}
use Rattle.rows.specs.declared.answers.Fetch.{Fetch}
use Rattle.rows.specs.declared.answers.Fetch.TheVariants as fetch
use Rattle.rows.specs.Bounds.{bound, all_carried, field_at, row_need, first_loss}

-- the most bytes that an arena has
abbrev pub most_bytes : ℕ
most_bytes = 65536

-- openings

-- bound columns whose places fit the arena and whose codes are carried; else 8, then 9 with the host's number for a code not carried
abbrev pub placed : ℕ → ((column code : ℕ) → Bool) → List Column → Result (List Column) Fault
placed arena carries pairs =
    cond (nat_lt arena (opening_size pairs)) (Err (refused LayoutTooLong))
    (cond (all_carried carries 0 pairs) (Ok pairs) (Err (host_failed unsupported_type)))

-- an opening of a session that is opened or not: 2, 3, 7 by column, 8, 9, or the columns as they are bound
abbrev pub opening : Bool → ℕ → ((column code : ℕ) → Bool) → List (Option MysqlType) → List Column → Result (List Column) Fault
opening opened arena carries wanted columns =
    cond opened (Err (refused AlreadyOpened))
    (cond (nat_lt most_bytes arena) (Err (refused ArenaLength))
    (next (bound wanted columns) (placed arena carries)))

-- fetches

-- the numbers of what a fetch answers, which are those of MySQL's C API
abbrev pub fetch_number : Fetch → ℕ
fetch_number fetch.Row = 0
fetch_number fetch.End = 100

-- a row is shown, unless it loses a figure (10, at the lowest such column) or else needs more than the arena has (11)
abbrev pub row_fetched : Option ℕ → Bool → Result Fetch Fault
row_fetched (Some k) too_long = Err (at_column (refused NumericOverflow) k)
row_fetched None true = Err (refused NoRoom)
row_fetched None false = Ok fetch.Row

-- by the next event: the end where there is none, 9 with its number for a failure
abbrev pub fetched : List Column → ℕ → List Event → Result Fetch Fault
fetched pairs arena [] = Ok fetch.End
fetched pairs arena (failure n ∷ es) = Err (host_failed n)
fetched pairs arena (row r ∷ es) = row_fetched (first_loss r 0 pairs) (nat_lt arena (row_need r 0 pairs))

-- readings

-- what is shown of a column: bytes, with their type
pub record TypedBytes : Type 0 where
  pub tpe : MysqlType
  pub bytes : List ℕ

-- bytes with the type of a bound column, or 12 where its code and flags have none
abbrev pub typed : ℕ → List ℕ → Result MysqlType Fault → Result (Option TypedBytes) Fault
typed k bs (Ok t) = Ok (Some (record { tpe = t; bytes = bs }))
typed k bs (Err f) = Err (at_column f k)

-- a null is none; else all bytes of the field, with the type
abbrev pub field_shown : ℕ → Column → Field → Result (Option TypedBytes) Fault
field_shown k c null = Ok None
field_shown k c (held lost bs) = typed k bs (type_of c.code c.flags)

-- 4 past the last column, 5 where no row is shown, else what the row has
abbrev pub row_shown : List Column → Option Row → ℕ → Result (Option TypedBytes) Fault
row_shown pairs None k = Err (refused NoCurrentRow)
row_shown pairs (Some r) k = field_shown k (slice_index_or pairs k no_pair) (field_at r k (slice_index_or pairs k no_pair))

abbrev pub read : List Column → Option Row → ℕ → Result (Option TypedBytes) Fault
read pairs shown k = cond (nat_lt k (length pairs)) (row_shown pairs shown k) (Err (refused NoSuchColumn))

-- a typed reading of what is shown: 13 for a null, the reading's own fault with the column put in, or the value
abbrev pub faulted : {X : Type 0} → ℕ → Result X Fault → Result X Fault
faulted k (Ok x) = Ok x
faulted k (Err f) = Err (at_column f k)

abbrev pub read_as : {X : Type 0} → (MysqlType → List ℕ → Result X Fault) → ℕ → Result (Option TypedBytes) Fault → Result X Fault
read_as reads k (Ok None) = Err (at_column (refused UnexpectedNull) k)
read_as reads k (Ok (Some v)) = faulted k (reads v.tpe v.bytes)
read_as reads k (Err f) = Err f
