-- When an opening or a fetch is refused, and with what, without an order of checks. A history begins with a new session over a host that
-- means m, and an arena of n bytes, always the same.
use Rattle.std.specs.Prelude.{◌≡◌, ℕ, ◌<◌, ◌≤◌, true, false, List, [], ◌∷◌, ◌++◌, length, drop, Some, None, Ok, Option, ◌≢◌, slice_index_or, Bool, Err, Result}
use Rattle.mysql.specs.declared.backend.MysqlType.{MysqlType}
use Rattle.mysql.specs.declared.bind.Column.{Column}
use Rattle.mysql.specs.declared.fault.Fault.{Fault}
use Rattle.mysql.specs.declared.fault.Refusal.TheVariants.{Unopened, AlreadyOpened, ArenaLength, NoSuchColumn, UnknownFlags, LayoutTooLong, NumericOverflow, NoRoom, NoType}
use Rattle.mysql.specs.Faults.{refused, host_failed, at_column}
use Rattle.mysql.specs.Kept.{keeps}
use Rattle.mysql.specs.Types.{size_of, type_of, known}
use Rattle.host.specs.Fields.{null, held}
use Rattle.host.specs.Meanings.{Row, Event, Meaning}
use Rattle.host.specs.Meanings as event
use Rattle.host.specs.Calls.{unsupported_type}
use Rattle.layout.specs.Tables.{opening_size, no_pair}
use Rattle.rows.specs.Bounds.{wanted_of, bound, field_at, loses, row_need}
use Rattle.play.specs.Histories.{opening, fetch, reading, Said, opened, row, end, null as null_said, bytes, refused_with, Entry, granted, bound_with, removed, NoFetch}

-- A exactly when B
abbrev pub When : Type 0 → Type 0 → Type 0
When A B = (A → B) × (B → A)

-- the lowest number below a count of which P holds
pub record Lowest (P : ℕ → Type 0) (count k : ℕ) : Type 0 where
  pub within : k < count
  pub holds : P k
  pub none_before : (j : ℕ) → j < k → P j → ⊥

-- openings

-- a column's own code and flags are taken: no type is wanted of it, or the pair of that type and its code is kept
abbrev pub OwnTaken : Option MysqlType → Column → Type 0
OwnTaken None c = Unit {0}
OwnTaken (Some t) c = keeps t c.code ≡ true

-- the flags of column k are taken, and have a bit that is not known
pub record UnknownTaken (wanted : List (Option MysqlType)) (columns : List Column) (k : ℕ) : Type 0 where
  pub own : OwnTaken (wanted_of wanted k) (slice_index_or columns k no_pair)
  pub unknown : known (slice_index_or columns k no_pair).flags ≡ false

-- an opening of a session that is not opened yet, over an arena that is not too long
pub record First (n : ℕ) (before : List Entry) : Type 0 where
  pub none_before : granted before ≡ None
  pub short : n ≤ 65536

-- all flags that are taken are known, and this holds of the codes and flags that the columns are bound with
pub record BoundAs (m : Meaning) (n : ℕ) (before : List Entry) (wanted : List (Option MysqlType)) (P : List Column → Type 0) : Type 0 where
  pub is_first : First n before
  pub all_known : (k : ℕ) → k < length m.columns → UnknownTaken wanted m.columns k → ⊥
  pub pairs : List Column
  pub bound_with : bound wanted m.columns ≡ Ok pairs
  pub holds : P pairs

-- column k can be asked for at the code that it is bound with
abbrev pub Carried : Meaning → List Column → ℕ → Type 0
Carried m pairs k = m.carries k (slice_index_or pairs k no_pair).code ≡ true

pub record OpeningWhen (m : Meaning) (n : ℕ) (before : List Entry) (wanted : List (Option MysqlType)) (said : Said) : Type 0 where
  -- 2: an opening was granted before
  pub already_opened : When (said ≡ refused_with (refused AlreadyOpened)) (granted before ≢ None)
  -- 3: the arena is longer than 65,536 bytes
  pub arena_length : When (said ≡ refused_with (refused ArenaLength)) ((granted before ≡ None) × (65536 < n))
  -- 7: the lowest column whose flags are taken and not known
  pub unknown_flags : (k : ℕ) → When (said ≡ refused_with (at_column (refused UnknownFlags) k)) (First n before × Lowest (UnknownTaken wanted m.columns) (length m.columns) k)
  -- 8: the places of the opening are longer than the arena
  pub too_long : When (said ≡ refused_with (refused LayoutTooLong)) (BoundAs m n before wanted (λ pairs. n < opening_size pairs))
  -- 9: they are not, and some column can't be asked for at the code that it is bound with
  pub not_carried : When (said ≡ refused_with (host_failed unsupported_type))
      (BoundAs m n before wanted (λ pairs. (opening_size pairs ≤ n) × ((k : ℕ) × (k < length pairs) × (Carried m pairs k → ⊥))))
  -- granted: each can
  pub granted_when : When (said ≡ opened)
      (BoundAs m n before wanted (λ pairs. (opening_size pairs ≤ n) × ((k : ℕ) → k < length pairs → Carried m pairs k)))

-- fetches

-- a row loses a figure in column k: its code is of a fixed size, and its field has a loss mark
abbrev pub LosesAt : Row → List Column → ℕ → Type 0
LosesAt r pairs k = loses (size_of (slice_index_or pairs k no_pair).code) (field_at r k (slice_index_or pairs k no_pair)) ≡ true

abbrev pub LosesNone : Row → List Column → Type 0
LosesNone r pairs = (k : ℕ) → k < length pairs → LosesAt r pairs k → ⊥

-- a row is next, and this holds of it
pub record RowNext (coming : List Event) (P : Row → Type 0) : Type 0 where
  pub fields : Row
  pub rest : List Event
  pub next : coming ≡ event.row fields ∷ rest
  pub holds : P fields

-- of a session that is opened, its columns bound with these codes and flags
pub record FetchWhen (n : ℕ) (pairs : List Column) (coming : List Event) (said : Said) : Type 0 where
  -- the end: no event is left
  pub ended : When (said ≡ end) (coming ≡ [])
  -- 9: a failure is next, with this number
  pub failed : (number : ℕ) → When (said ≡ refused_with (host_failed number)) ((rest : List Event) × (coming ≡ event.failure number ∷ rest))
  -- 10: a row is next that loses a figure, in this column and in none before it
  pub lost_figure : (k : ℕ) → When (said ≡ refused_with (at_column (refused NumericOverflow) k)) (RowNext coming (λ r. Lowest (LosesAt r pairs) (length pairs) k))
  -- 11: a row is next that loses none, and needs more than the arena has
  pub no_room : When (said ≡ refused_with (refused NoRoom)) (RowNext coming (λ r. LosesNone r pairs × (n < row_need r 0 pairs)))
  -- a row is shown: it loses none, and the arena has what it needs
  pub shown : When (said ≡ row) (RowNext coming (λ r. LosesNone r pairs × (row_need r 0 pairs ≤ n)))

-- readings

-- a row has a null in column k, or these bytes
pub record NullAt (r : Row) (pairs : List Column) (k : ℕ) : Type 0 where
  pub within : k < length pairs
  pub field : field_at r k (slice_index_or pairs k no_pair) ≡ null

pub record HeldAt (r : Row) (pairs : List Column) (k : ℕ) (bs : List ℕ) : Type 0 where
  pub within : k < length pairs
  pub lost : Bool
  pub field : field_at r k (slice_index_or pairs k no_pair) ≡ held lost bs

-- the type that column k is read back with, or none
abbrev pub type_at : List Column → ℕ → Result MysqlType Fault
type_at pairs k = type_of (slice_index_or pairs k no_pair).code (slice_index_or pairs k no_pair).flags

-- of column k, where this row is shown
pub record ReadingWhen (r : Row) (pairs : List Column) (k : ℕ) (said : Said) : Type 0 where
  -- 4: there is no such column
  pub no_column : When (said ≡ refused_with (refused NoSuchColumn)) (length pairs ≤ k)
  -- none: the row has a null there
  pub is_null : When (said ≡ null_said) (NullAt r pairs k)
  -- all its bytes, with the type
  pub has_bytes : (t : MysqlType) (bs : List ℕ) → When (said ≡ bytes t bs) (HeldAt r pairs k bs × (type_at pairs k ≡ Ok t))
  -- 12: it has bytes, and no type
  pub no_type : When (said ≡ refused_with (at_column (refused NoType) k)) ((bs : List ℕ) × HeldAt r pairs k bs × (type_at pairs k ≡ Err (refused NoType)))

-- all openings, fetches and raw readings of a history
pub record InWords (m : Meaning) (n : ℕ) (history : List Entry) : Type 0 where
  pub openings : (before after : List Entry) (wanted : List (Option MysqlType)) (said : Said) → history ≡ before ++ record { asked = opening wanted; said = said } ∷ after → OpeningWhen m n before wanted said
  -- 1: no opening was granted
  pub unopened : (before after : List Entry) (said : Said) → history ≡ before ++ record { asked = fetch; said = said } ∷ after → When (said ≡ refused_with (refused Unopened)) (granted before ≡ None)
  pub fetches : (before after : List Entry) (said : Said) (pairs : List Column) → history ≡ before ++ record { asked = fetch; said = said } ∷ after → bound_with m.columns (granted before) ≡ Some pairs
      → FetchWhen n pairs (drop (removed before) m.coming) said
  -- a reading between a fetch that showed a row and the next fetch
  pub readings : (before between after : List Entry) (k : ℕ) (said : Said) (pairs : List Column) → history ≡ before ++ record { asked = fetch; said = row } ∷ (between ++ record { asked = reading k; said = said } ∷ after) → NoFetch between
      → bound_with m.columns (granted before) ≡ Some pairs → RowNext (drop (removed before) m.coming) (λ r. ReadingWhen r pairs k said)
