-- How a real session stands to the ideal one, and what a call of the one is to the other.
use Rattle.std.specs.Prelude.{◌≡◌, ℕ, true, false, cond, max, ◌||◌, List, [], ◌∷◌, ◌++◌, length, is_some, Some, None, Option}
use Rattle.host.specs.Meanings.{Meaning}
use Rattle.layout.specs.Moves.{Beyond}
use Rattle.session.specs.declared.answers.Slip.{Slip}
use Rattle.session.specs.declared.state.Session.{Session}
use Rattle.rows.specs.Reach.{capacities_of}
use Rattle.rows.specs.Standing.{pairs_of}
use Rattle.session.specs.Sessions.{table_of, is_open, shown_row, Sound, Holds}
use Rattle.play.specs.Histories.{Asked, Said, Entry, granted_by}
use Rattle.play.specs.Machine.{State, answer, after}
use Rattle.play.specs.Lays.{Lay, lay_end, lay_after}

-- the arena, the bind list and the current row are as they were
pub record Untouched (m m' : Meaning) (a a' : List ℕ) : Type 0 where
  pub arena : a' ≡ a
  pub bound : m'.bound ≡ m.bound
  pub current : m'.current ≡ m.current

module _ {H : Type 0} where
  -- the ideal session that a session over a host that means m, and an arena a, stand for
  abbrev pub ideal_of : Meaning → Session H → List ℕ → State
  ideal_of m s a = record {
    columns = m.columns;
    carries = m.carries;
    arena = length a;
    coming = m.coming;
    bound = cond (is_open s) (Some (pairs_of (table_of s))) None;
    shown = shown_row m s;
  }

  -- the places of its columns, and the events to come
  abbrev pub lay_of : Meaning → Session H → Lay
  lay_of m s = record { pairs = pairs_of (table_of s); capacities = capacities_of (table_of s); coming = m.coming }

  -- a session that is opened was opened over an arena of this length, and the row that it shows stands whole in this arena
  pub record Ready (m : Meaning) (s : Session H) (a : List ℕ) : Type 0 where
    pub room : is_open s ≡ true → (table_of s).room ≡ length a
    pub sound : Sound m s
    pub holds : Holds m s a

  -- a call to which this was said: the ideal session says it too, and the session stands for what that is after it
  pub record Moved (x : State) (asked : Asked) (said : Said) (m' : Meaning) (s' : Session H) (a' : List ℕ) : Type 0 where
    pub says : said ≡ answer x asked
    pub to : ideal_of m' s' a' ≡ after x asked
    pub ready : Ready m' s' a'

  -- what it does to the places and the arena: no byte past them changes, and nothing while the session is not opened
  pub record Reaches (asked : Asked) (said : Said) (m m' : Meaning) (s s' : Session H) (a a' : List ℕ) : Type 0 where
    pub lay : lay_of m' s' ≡ lay_after (length a) m.columns (lay_of m s) (record { asked = asked; said = said })
    pub past : Beyond (max (lay_end (lay_of m s)) (lay_end (lay_of m' s'))) a a'
    pub untouched : is_open s' ≡ false → Untouched m m' a a'

-- what the ideal session says to what is asked
abbrev pub said_at : State → Asked → Entry
said_at x asked = record { asked = asked; said = answer x asked }

-- a session over its own host, which means what `means` says of it
module _ {H : Type 0} (means : H → Meaning) where
  abbrev pub Stands : Session H → List ℕ → Type 0
  Stands s a = Ready (means s.host) s a

  abbrev pub standing : Session H → List ℕ → State
  standing s a = ideal_of (means s.host) s a

  pub record Steps (asked : Asked) (said : Said) (s s' : Session H) (a a' : List ℕ) : Type 0 where
    pub moved : Moved (standing s a) asked said (means s'.host) s' a'
    pub reaches : Reaches asked said (means s.host) (means s'.host) s s' a a'

-- a call of a session that stands for an ideal one: the listener is told what that says, and the slip of a granted opening is kept
module _ {H L : Type 0} (means : H → Meaning) (heard : L → List Entry → Type 0) where
  pub record Answered (asked : Asked) (held held' : Option Slip) (s s' : Session H) (a a' : List ℕ) (l l' : L) : Type 0 where
    pub steps : Steps means asked (answer (standing means s a) asked) s s' a a'
    pub slip : is_some held' ≡ (is_some held || is_some (granted_by asked (answer (standing means s a) asked)))
    pub hears : (history : List Entry) → heard l history → heard l' (history ++ said_at (standing means s a) asked ∷ [])
