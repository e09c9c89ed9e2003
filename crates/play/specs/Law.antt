-- The law of a session, over whole histories of calls. A history begins with a new session over a host that means m, and an arena of n
-- bytes, always the same.
use Rattle.std.specs.Prelude.{◌≡◌, ℕ, ◌<◌, false, List, [], ◌∷◌, ◌++◌, length, drop, is_some, Some, None, Option, slice_index_or}
use Rattle.mysql.specs.declared.backend.MysqlType.{MysqlType}
use Rattle.mysql.specs.declared.bind.Column.{Column}
use Rattle.host.specs.Meanings.{Row, Event, Meaning}
use Rattle.host.specs.Meanings as event
use Rattle.layout.specs.Tables.{no_pair}
use Rattle.rows.specs.Bounds.{wanted_of, field_at}
use Rattle.rows.specs.Dues as dues
use Rattle.play.specs.Histories.{Asked, opening, fetch, Said, row, Entry, granted, bound_with, removed, showing, IsReading, NoFetch}
use Rattle.play.specs.Words.{InWords}
use Rattle.play.specs.Rules.{opening_said, fetch_said, fetch_due, reading_due}

-- the columns as they are bound after a history, and the events that are then to come
abbrev pub bound_after : Meaning → List Entry → Option (List Column)
bound_after m history = bound_with m.columns (granted history)

abbrev pub coming_after : Meaning → List Entry → List Event
coming_after m history = drop (removed history) m.coming

-- A row shows itself alone: a fetch that showed a row met a row, and until the next fetch every reading answers from that row, at the codes
-- and flags that the columns are bound with.
pub record Shows (m : Meaning) (before : List Entry) (asked : Asked) (said : Said) : Type 0 where
  pub pairs : List Column
  pub bound : bound_after m before ≡ Some pairs
  pub fields : Row
  pub rest : List Event
  pub met : coming_after m before ≡ event.row fields ∷ rest
  pub answers : (due : Said) → reading_due (Some pairs) (Some fields) asked ≡ Some due → said ≡ due

abbrev pub RowShowsItself : Meaning → List Entry → Type 0
RowShowsItself m history =
    (before between after : List Entry) (asked : Asked) (said : Said)
    → history ≡ before ++ record { asked = fetch; said = row } ∷ (between ++ record { asked = asked; said = said } ∷ after)
    → NoFetch between → Shows m before asked said

-- Refused exactly: each opening and each fetch says what the rules demand of the columns, the wanted types, the arena's length and the
-- next event, the granted ones included; and where no row is shown, each reading is refused as they demand.
pub record Exactly (m : Meaning) (n : ℕ) (before : List Entry) (asked : Asked) (said : Said) : Type 0 where
  pub openings : (wanted : List (Option MysqlType)) → asked ≡ opening wanted → said ≡ opening_said (dues.opening (is_some (granted before)) n m.carries wanted m.columns)
  pub fetches : asked ≡ fetch → said ≡ fetch_said (fetch_due (bound_after m before) n (coming_after m before))
  pub no_row : (due : Said) → showing before ≡ false → reading_due (bound_after m before) None asked ≡ Some due → said ≡ due

abbrev pub RefusedExactly : Meaning → ℕ → List Entry → Type 0
RefusedExactly m n history =
    (before after : List Entry) (asked : Asked) (said : Said)
    → history ≡ before ++ record { asked = asked; said = said } ∷ after → Exactly m n before asked said

pub record Lawful (m : Meaning) (n : ℕ) (history : List Entry) : Type 0 where
  pub row_shows_itself : RowShowsItself m history
  pub refused_exactly : RefusedExactly m n history
  -- the same of refusals, without an order of checks
  pub in_words : InWords m n history

-- Answers alike: two sessions that were opened alike, each after calls of its own, and whose next events are equal, answer the next fetch
-- alike, and so each reading that is made in both before a further fetch.

-- rows with equal fields, marks included, at the codes and flags that the columns are bound with
abbrev pub SameFields : List Column → Row → Row → Type 0
SameFields pairs r s = (k : ℕ) → k < length pairs → field_at r k (slice_index_or pairs k no_pair) ≡ field_at s k (slice_index_or pairs k no_pair)

-- next events are equal: both missing, failures of one number, or rows with equal fields
abbrev pub SameNext : List Column → List Event → List Event → Type 0
SameNext pairs [] [] = Unit {0}
SameNext pairs (event.row r ∷ ds) (event.row s ∷ es) = SameFields pairs r s
SameNext pairs (event.failure n ∷ ds) (event.failure k ∷ es) = n ≡ k
SameNext pairs ds es = ⊥

-- opened alike, with equal next events: equal columns and arena lengths, and equal wanted types of the columns; entries of the lists that are
-- missing count as none, and those past the last column are ignored
pub record Alike (m m' : Meaning) (n n' : ℕ) (before before' : List Entry) : Type 0 where
  pub columns : m.columns ≡ m'.columns
  pub arenas : n ≡ n'
  pub wanted : List (Option MysqlType)
  pub wanted' : List (Option MysqlType)
  pub opened : granted before ≡ Some wanted
  pub opened' : granted before' ≡ Some wanted'
  pub same_wanted : (k : ℕ) → k < length m.columns → wanted_of wanted k ≡ wanted_of wanted' k
  pub next : (pairs : List Column) → bound_after m before ≡ Some pairs → SameNext pairs (coming_after m before) (coming_after m' before')

pub record AlikeAfter (said said' : Said) (rest rest' : List Entry) : Type 0 where
  pub fetches : said ≡ said'
  pub readings : (between between' after after' : List Entry) (asked : Asked) (x y : Said)
      → rest ≡ between ++ record { asked = asked; said = x } ∷ after → rest' ≡ between' ++ record { asked = asked; said = y } ∷ after'
      → NoFetch between → NoFetch between' → IsReading asked → x ≡ y

abbrev pub AnswersAlike : (m m' : Meaning) (n n' : ℕ) (history history' : List Entry) → Type 0
AnswersAlike m m' n n' history history' =
    (before before' rest rest' : List Entry) (said said' : Said)
    → history ≡ before ++ record { asked = fetch; said = said } ∷ rest
    → history' ≡ before' ++ record { asked = fetch; said = said' } ∷ rest'
    → Alike m m' n n' before before' → AlikeAfter said said' rest rest'
