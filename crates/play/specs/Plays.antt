-- What playing a list of calls to a listener comes to.
use Rattle.std.specs.Prelude.{◌≡◌, ℕ, true, false, ◌||◌, List, ◌++◌, length, map, drop, is_some, Option}
use Rattle.host.specs.Meanings.{Meaning}
use Rattle.layout.specs.Moves.{Beyond}
use Rattle.session.specs.declared.answers.Slip.{Slip}
use Rattle.session.specs.declared.state.Session.{Session}
use Rattle.session.specs.Sessions.{is_open}
use Rattle.play.specs.declared.calls.Call.{Call}
use Rattle.play.specs.Calls.{asked_of}
use Rattle.play.specs.Histories.{Entry, granted, removed}
use Rattle.play.specs.Law.{Lawful, AnswersAlike}
use Rattle.play.specs.Lays.{reach_from}
use Rattle.play.specs.Machine.{told}
use Rattle.play.specs.Moves.{lay_of, Ready, Untouched, Stands, standing}

-- What a history leaves of the host, the session and the arena. The host has the events that are left when as many were taken off as the
-- history removed. No byte past the furthest places changed, and none at all while no opening was granted.
pub record Left {H : Type 0} (m m' : Meaning) (history : List Entry) (slip : Option Slip) (s s' : Session H) (a a' : List ℕ) : Type 0 where
  pub columns : m'.columns ≡ m.columns
  pub carries : m'.carries ≡ m.carries
  pub coming : m'.coming ≡ drop (removed history) m.coming
  pub opened : is_open s' ≡ (is_open s || is_some (granted history))
  pub slip_given : is_some slip ≡ is_some (granted history)
  pub ready : Ready m' s' a'
  pub past : Beyond (reach_from (length a) m.columns (lay_of m s) history) a a'
  pub untouched : is_open s' ≡ false → Untouched m m' a a'

module _ {H : Type 0} (means : H → Meaning) where
  -- these calls of a session over an arena, each with what it answers
  abbrev pub history_of : Session H → List ℕ → List Call → List Entry
  history_of s a calls = told (standing means s a) calls

  -- a session that is opened already was opened over an arena of this length, and agrees with what its host means; one that is not is ready
  abbrev pub IsReady : Session H → List ℕ → Type 0
  IsReady s a = is_open s ≡ true → Stands means s a

module _ {H L : Type 0} (means : H → Meaning) (heard : L → List Entry → Type 0) where
  -- the listener was told a history of these calls, which is lawful where the session was new
  pub record Heard (calls : List Call) (slip : Option Slip) (s s' : Session H) (a a' : List ℕ) (l l' : L) : Type 0 where
    pub asks : map (λ e. e.asked) (history_of means s a calls) ≡ map asked_of calls
    pub hears : (before : List Entry) → heard l before → heard l' (before ++ history_of means s a calls)
    pub lawful : is_open s ≡ false → Lawful (means s.host) (length a) (history_of means s a calls)
    pub left : Left (means s.host) (means s'.host) (history_of means s a calls) slip s s' a a'

-- two new sessions: what is answered alike
module _ {G H : Type 0} (means : G → Meaning) (means' : H → Meaning) where
  abbrev pub HeardAlike : (calls calls' : List Call) (s : Session G) (t : Session H) (a b : List ℕ) → Type 0
  HeardAlike calls calls' s t a b =
      is_open s ≡ false → is_open t ≡ false
      → AnswersAlike (means s.host) (means' t.host) (length a) (length b) (history_of means s a calls) (history_of means' t b calls')
