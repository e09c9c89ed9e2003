-- Each call steps as the ideal session does, and reaches no further than its places.
use Rattle.std.proofs.Common.{◌≡◌, ℕ, ℤ, true, false, List, [], ◌∷◌, ◌++◌, length, Ok, Err, Option, Result, refl, ap, subst}
use Rattle.mysql.specs.declared.backend.MysqlType.{MysqlType}
use Rattle.mysql.specs.declared.bind.Column.{Column}
use Rattle.mysql.specs.declared.fault.Fault.{Fault}
use Rattle.readings.specs.declared.date_and_time.MysqlTime.{MysqlTime}
use Rattle.host.specs.Meanings.{Meaning}
use Rattle.rows.specs.Dues as dues
use Rattle.rows.specs.declared.answers.Fetch.{Fetch}
use Rattle.rows.specs.declared.answers.Fetch.TheVariants as fetch_answer
use Rattle.session.specs.declared.answers.Slip.{Slip}
use Rattle.session.specs.declared.state.Session.{Session}
use Rattle.session.specs.Sessions as session
use Rattle.session.specs.Sessions.{is_open, passes, IsSound, HoldsRow, Opens, AfterOpening, Fetches, NotFetched}
use Rattle.play.specs.declared.calls.Answer.{Answer}
use Rattle.play.specs.declared.calls.Answer.TheVariants.{Time}
use Rattle.play.specs.Histories.{Asked, opening, fetch, Said, Entry, number}
use Rattle.play.specs.Rules.{opening_said, fetch_said, number_said, time_said}
use Rattle.play.specs.Calls.{said_by, fetch_answered, held_in}
use Rattle.play.specs.Machine.{answer}
use Rattle.play.specs.Moves.{Stands, standing, Steps}
use Rattle.play.proofs.Moves.{slip_said, opening_moved, fetch_moved}
use Rattle.play.proofs.Reaches.{opening_reaches, fetch_reaches}

module _ {H : Type 0} (m m' : Meaning) (s s' : Session H) (a a' : List ℕ) where
  slip_due : (r : Result Slip Fault) (d : Result (List Column) Fault) → AfterOpening r d m m' s s' a a' → slip_said r ≡ opening_said d
  slip_due (Ok slip) (Ok pairs) w = refl
  slip_due (Ok slip) (Err f) w = absurd w
  slip_due (Err f) (Ok pairs) w = absurd w
  slip_due (Err f) (Err g) w = ap (λ (x : Fault). opening_said (Err x)) w.0

module _ {H : Type 0} (means : H → Meaning) (s s' : Session H) (a a' : List ℕ) (long : length a' ≡ length a) (stands : Stands means s a) where
  pub opening_steps : (wanted : List (Option MysqlType)) (r : Result Slip Fault) → Opens means r wanted s s' a a' → (IsSound means s → IsSound means s') → (HoldsRow means s a → HoldsRow means s' a') → Steps means (opening wanted) (slip_said r) s s' a a'
  opening_steps wanted r w sound holds =
      let m = means s.host in let m' = means s'.host in
      let moved = opening_moved m m' s s' a a' wanted long stands (sound stands.sound) (holds stands.holds) r w in
      record { moved = moved; reaches = opening_reaches m m' s s' a a' wanted r (slip_said r) (slip_due m m' s s' a a' r (dues.opening (is_open s) (length a) m.carries wanted m.columns) w) w }

  pub fetch_steps : (r : Result Fetch Fault) → r ≡ session.fetch_due means s a → (passes s a ≡ false → NotFetched s s' a a') → (passes s a ≡ true → Fetches means r s s' a a') → IsSound means s' → HoldsRow means s' a'
      → Steps means fetch (fetch_said r) s s' a a'
  fetch_steps r e n w sound holds =
      let m = means s.host in let m' = means s'.host in
      let same_host : s' ≡ s → m' ≡ m = ap (λ (x : Session H). means x.host) in
      record { moved = fetch_moved m m' s s' a a' long same_host stands sound holds r e n w; reaches = fetch_reaches m m' s s' a a' stands same_host r (fetch_said r) refl e n w }

-- an answer that holds what a fetch, or a reading, came to says it
module _ {B : Type 0} (bytes_in : B → List ℕ) where
  pub fetched_says : (r : Result Fetch Fault) → said_by bytes_in (fetch_answered r) ≡ fetch_said r
  fetched_says (Ok fetch_answer.Row) = refl
  fetched_says (Ok fetch_answer.End) = refl
  fetched_says (Err f) = refl

  pub number_says : (holds : ℤ → Answer B) → ((n : ℤ) → said_by bytes_in (holds n) ≡ number n) → (r : Result ℤ Fault) → said_by bytes_in (held_in holds r) ≡ number_said r
  number_says holds h (Ok n) = h n
  number_says holds h (Err f) = refl

  pub moment_says : (r : Result MysqlTime Fault) → said_by bytes_in (held_in Time r) ≡ time_said r
  moment_says (Ok t) = refl
  moment_says (Err f) = refl

-- what was said is what is due
pub due_said : {H : Type 0} (means : H → Meaning) (asked : Asked) (said : Said) (s s' : Session H) (a a' : List ℕ) → Steps means asked said s s' a a' → Steps means asked (answer (standing means s a) asked) s s' a a'
due_said means asked said s s' a a' w = subst (λ (x : Said). Steps means asked x s s' a a') w.moved.says w

-- a listener that is told an answer is told what that says
pub told : {L : Type 0} (heard : L → List Entry → Type 0) (asked asked' : Asked) → asked' ≡ asked → (said due : Said) → said ≡ due → (l l' : L)
    → ((history : List Entry) → heard l history → heard l' (history ++ record { asked = asked'; said = said } ∷ []))
    → (history : List Entry) → heard l history → heard l' (history ++ record { asked = asked; said = due } ∷ [])
told heard asked asked' q said due e l l' h history so =
    subst (λ (x : Said). heard l' (history ++ record { asked = asked; said = x } ∷ [])) e
    (subst (λ (x : Asked). heard l' (history ++ record { asked = x; said = said } ∷ [])) q (h history so))
