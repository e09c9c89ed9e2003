-- What a fetch keeps: the tie between a session and its host, and that a shown row stands in the arena.
use Rattle.std.proofs.Common.{◌≡◌, ℕ, Bool, true, false, cond, List, [], ◌∷◌, length, Some, None, Ok, Err, Result, sym, refl, ap, ◌∙◌, subst, arith}
use Rattle.mysql.specs.declared.fault.Fault.{Fault}
use Rattle.host.specs.Meanings.{Row, Event, row, failure, Meaning}
use Rattle.layout.specs.Tables.{count_of, col, binds}
use Rattle.rows.specs.declared.answers.Fetch.{Fetch}
use Rattle.session.specs.declared.state.Session.{Session}
use Rattle.rows.specs.Bounds.{field_at}
use Rattle.rows.specs.Standing.{pair_of, pairs_of, StandsWhole}
use Rattle.session.specs.Sessions.{table_of, is_open, is_shown, Sound, Holds, passes, host_after, AfterFetch}
use Rattle.rows.proofs.Pairs.{not_both}
use Rattle.session.proofs.Shows.{is_opened}

module _ {H : Type 0} (m m' : Meaning) (s s' : Session H) (sound : Sound m s) (a : List ℕ) (p : passes s a ≡ true) where
  opened : is_open s ≡ true
  opened = is_opened s a p

  -- where the columns stay as they are bound, and the host is bound to the places
  kept_sound : m'.columns ≡ m.columns → m'.carries ≡ m.carries → m'.bound ≡ Some (binds (table_of s')) → count_of (table_of s') ≡ count_of (table_of s) → pairs_of (table_of s') ≡ pairs_of (table_of s)
      → is_open s' ≡ true → (is_shown s' ≡ true → m'.current ≡ None → ⊥) → Sound m' s'
  kept_sound cs rs b n ps o some = record {
    places = λ _. b;
    as_many = λ _. n ∙ sound.as_many opened ∙ sym (ap length cs);
    carried = λ _. rw (rs, ps) (sound.carried opened);
    a_row = some;
  }

  same_table : table_of s' ≡ table_of s → (rest : List Event) (error : ℕ) → m' ≡ host_after m rest None error → is_open s' ≡ true → is_shown s' ≡ false → Sound m' s'
  same_table e rest error h o no_row =
      kept_sound (rw h refl) (rw h refl)
      (rw (h, e) (sound.places opened)) (rw e refl) (rw e refl) o (λ p. not_both (is_shown s') p no_row)

  pub after_sound : (a' : List ℕ) (es : List Event) (x : Result Fetch Fault) → AfterFetch es x m m' s s' a a' → Sound m' s'
  after_sound a' [] x w = same_table w.table [] 0 w.host w.opened w.no_row
  after_sound a' (failure n ∷ rest) x w = same_table w.table rest n w.host w.opened w.no_row
  after_sound a' (row r ∷ rest) (Ok x) w =
      kept_sound (rw w.host refl) (rw w.host refl) (rw w.host refl) w.table.count w.table.pairs w.opened
      (λ p e. let q : None ≡ Some r = sym e ∙ ap (λ (z : Meaning). z.current) w.host in cc)
  after_sound a' (row r ∷ rest) (Err f) w =
      kept_sound (rw w.host refl) (rw w.host refl)
      (rw w.host (sound.places opened ∙ ap Some (sym w.places.binds_same)))
      w.places.count w.pairs w.opened (λ p. not_both (is_shown s') p w.no_row)

-- where no row is shown there is nothing to hold
unshown : {H : Type 0} (m : Meaning) (s : Session H) (a : List ℕ) → is_shown s ≡ false → Holds m s a
unshown m s a e = record { whole = λ r q k l. let z : None ≡ Some r = sym (ap (λ (b : Bool). cond b m.current None) e) ∙ q in cc }

pub after_holds : {H : Type 0} (m m' : Meaning) (s s' : Session H) (a a' : List ℕ) (es : List Event) (x : Result Fetch Fault) → AfterFetch es x m m' s s' a a' → Holds m' s' a'
after_holds m m' s s' a a' [] x w = unshown m' s' a' w.no_row
after_holds m m' s s' a a' (failure n ∷ rest) x w = unshown m' s' a' w.no_row
after_holds m m' s s' a a' (row r ∷ rest) (Err f) w = unshown m' s' a' w.no_row
after_holds m m' s s' a a' (row r ∷ rest) (Ok x) w = record {
  whole = λ q e k l.
      let now : m'.current ≡ Some r = ap (λ (z : Meaning). z.current) w.host in
      let is : Some r ≡ Some q = sym (ap (λ (b : Bool). cond b m'.current None) w.shown ∙ now) ∙ e in
      let same : r ≡ q = cc in
      let n = w.table.count in
      subst (λ (y : Row). StandsWhole (field_at y k (pair_of (col (table_of s') k))) (col (table_of s') k) a') same (w.whole k (omega arith));
}
