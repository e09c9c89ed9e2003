-- An opening that was granted, and what follows of it.
use Rattle.std.proofs.Common.{◌≡◌, ℕ, Bool, false, List, length, Ok, Err, Option, Result, refl, subst}
use Rattle.mysql.specs.declared.backend.MysqlType.{MysqlType}
use Rattle.mysql.specs.declared.bind.Column.{Column}
use Rattle.mysql.specs.declared.fault.Fault.{Fault}
use Rattle.host.specs.Meanings.{Event, Meaning}
use Rattle.rows.specs.Dues.{opening}
use Rattle.rows.specs.Standing.{pairs_of}
use Rattle.session.specs.declared.answers.Slip.{Slip}
use Rattle.session.specs.declared.state.Session.{Session}
use Rattle.session.specs.Sessions.{table_of, is_open, AfterOpening, Opens}

module _ {H : Type 0} (means : H → Meaning) (s s' : Session H) (a a' : List ℕ) (long : length a' ≡ length a) (Due : Result (List Column) Fault → ℕ → List Event → Type 0) where
  by_answer : (due : Result (List Column) Fault) (slip : Slip) → AfterOpening (Ok slip) due (means s.host) (means s'.host) s s' a a'
      → Due (Ok (pairs_of (table_of s'))) (length a') (means s'.host).coming → Due due (length a) (means s.host).coming
  by_answer (Ok pairs) slip w d =
      let coming : (means s'.host).coming ≡ (means s.host).coming = rw w.host refl in
      rw (w.bound_with, long, coming) at d
  by_answer (Err f) slip w d = absurd w

  -- What is due of the columns as they are bound, of the arena's length and of the events to come is what is due of a new session's opening.
  pub due_of_opening : (host : H) (slip : Slip) (wanted : List (Option MysqlType)) → s.host ≡ host → is_open s ≡ false → Opens means (Ok slip) wanted s s' a a'
      → Due (Ok (pairs_of (table_of s'))) (length a') (means s'.host).coming → Due (opening false (length a) (means host).carries wanted (means host).columns) (length a) (means host).coming
  due_of_opening host slip wanted same closed w d =
      let at : H → Bool → Result (List Column) Fault = λ h b. opening b (length a) (means h).carries wanted (means h).columns in
      subst (λ (h : H). Due (at h false) (length a) (means h).coming) same
      (subst (λ (b : Bool). Due (at s.host b) (length a) (means s.host).coming) closed (by_answer (at s.host (is_open s)) slip w d))
