-- What an opening keeps: the tie between a session and its host, and what stands in the arena.
use Rattle.std.proofs.Common.{◌≡◌, ℕ, ◌<◌, Bool, true, false, cond, ltb, List, length, Some, None, Ok, Err, Option, Result, sym, refl, ap, ◌∙◌, subst}
use Rattle.mysql.specs.declared.backend.MysqlType.{MysqlType}
use Rattle.mysql.specs.declared.bind.Column.{Column}
use Rattle.mysql.specs.declared.fault.Fault.{Fault}
use Rattle.mysql.specs.declared.fault.Refusal.TheVariants.{ArenaLength, LayoutTooLong}
use Rattle.mysql.specs.Answers.{next}
use Rattle.mysql.specs.Faults.{refused, host_failed}
use Rattle.host.specs.Meanings.{Meaning}
use Rattle.layout.specs.declared.table.ColumnTable.{ColumnTable}
use Rattle.layout.specs.Tables.{count_of, col, opening_size}
use Rattle.rows.proofs.Pairs.{not_both}
use Rattle.session.specs.declared.answers.Slip.{Slip}
use Rattle.session.specs.declared.state.Session.{Session}
use Rattle.rows.specs.Bounds.{bound, all_carried, field_at}
use Rattle.session.proofs.Binds.{bound_long}
use Rattle.rows.specs.Dues.{most_bytes, placed, opening}
use Rattle.rows.specs.Standing.{pair_of, StandsWhole}
use Rattle.session.specs.Sessions.{table_of, is_shown, Sound, Holds, shown_row, OpeningGranted, OpeningRefused, AfterOpening}

module _ {H : Type 0} (m m' : Meaning) (s s' : Session H) (a a' : List ℕ) where
  refused_sound : (f : Fault) → OpeningRefused f m m' s s' a a' → Sound m s → Sound m' s'
  refused_sound f n h = record {
    places = λ o. rw (n.host, n.table) (h.places (sym n.opened ∙ o));
    as_many = λ o. rw (n.host, n.table) (h.as_many (sym n.opened ∙ o));
    carried = λ o. rw (n.host, n.table) (h.carried (sym n.opened ∙ o));
    a_row = λ o e. h.a_row (sym n.shown ∙ o) (sym (ap (λ (x : Meaning). x.current) n.host) ∙ e);
  }

  refused_holds : (f : Fault) → OpeningRefused f m m' s s' a a' → Holds m s a → Holds m' s' a'
  refused_holds f n h = record {
    whole = λ r e k l.
        let same : shown_row m' s' ≡ shown_row m s = rw (n.shown, n.host) refl in
        subst (λ (b : List ℕ). StandsWhole (field_at r k (pair_of (col (table_of s') k))) (col (table_of s') k) b) (sym n.same_arena)
        (subst (λ (t : ColumnTable). k < count_of t → StandsWhole (field_at r k (pair_of (col t k))) (col t k) a) (sym n.table) (h.whole r (sym same ∙ e) k) l);
  }

  granted_sound : (pairs : List Column) → OpeningGranted m m' s s' pairs a a' → all_carried m.carries 0 pairs ≡ true → length pairs ≡ length m.columns → Sound m' s'
  granted_sound pairs o c l = record {
    places = λ _. rw o.host refl;
    as_many = λ _. rw o.host (o.table.as_many ∙ l);
    carried = λ _. rw (o.host, o.bound_with) c;
    a_row = λ p e. not_both (is_shown s') p o.no_row;
  }

  granted_holds : (pairs : List Column) → OpeningGranted m m' s s' pairs a a' → Holds m' s' a'
  granted_holds pairs o = record { whole = λ r e k l. let q : None ≡ Some r = sym (ap (λ (b : Bool). cond b m'.current None) o.no_row) ∙ e in cc }

  pub still_holds : (r : Result Slip Fault) (x : Result (List Column) Fault) → AfterOpening r x m m' s s' a a' → Holds m s a → Holds m' s' a'
  still_holds (Ok slip) (Ok pairs) w h = granted_holds pairs w
  still_holds (Ok slip) (Err f) w h = absurd w
  still_holds (Err f) (Ok pairs) w h = absurd w
  still_holds (Err f) (Err g) w h = refused_holds f w.1 h

  pub still_sound : (r : Result Slip Fault) (x : Result (List Column) Fault) → ((pairs : List Column) → x ≡ Ok pairs → (all_carried m.carries 0 pairs ≡ true) × (length pairs ≡ length m.columns)) → AfterOpening r x m m' s s' a a' → Sound m s → Sound m' s'
  still_sound (Ok slip) (Ok pairs) d w h = granted_sound pairs w (d pairs refl).0 (d pairs refl).1
  still_sound (Ok slip) (Err f) d w h = absurd w
  still_sound (Err f) (Ok pairs) d w h = absurd w
  still_sound (Err f) (Err g) d w h = refused_sound f w.1 h

-- the columns of a granted opening are carried, and as many as the result has

placed_says : (n : ℕ) (carries : ℕ → ℕ → Bool) (ps pairs : List Column) (long all : Bool) → all_carried carries 0 ps ≡ all
    → cond long (Err (refused LayoutTooLong)) (cond all (Ok ps) (Err (host_failed 2036))) ≡ Ok pairs → (ps ≡ pairs) × (all ≡ true)
placed_says n carries ps pairs true all q e = cc
placed_says n carries ps pairs false true q e = (cc, refl)
placed_says n carries ps pairs false false q e = cc

pub opening_says : (opened : Bool) (n : ℕ) (carries : ℕ → ℕ → Bool) (wanted : List (Option MysqlType)) (cs pairs : List Column) → opening opened n carries wanted cs ≡ Ok pairs
    → (all_carried carries 0 pairs ≡ true) × (length pairs ≡ length cs)
opening_says true n carries wanted cs pairs e = cc
opening_says false n carries wanted cs pairs e = by_length (ltb most_bytes n) (bound wanted cs) refl e
  where
    by_length : (long : Bool) (b : Result (List Column) Fault) → bound wanted cs ≡ b → cond long (Err (refused ArenaLength)) (next b (placed n carries)) ≡ Ok pairs
        → (all_carried carries 0 pairs ≡ true) × (length pairs ≡ length cs)
    by_length true b q e = cc
    by_length false (Err f) q e = cc
    by_length false (Ok ps) q e =
        let p = placed_says n carries ps pairs (ltb n (opening_size ps)) (all_carried carries 0 ps) refl e in
        (sym (ap (all_carried carries 0) p.0) ∙ p.1, sym (ap length p.0) ∙ bound_long wanted 0 cs ps q)
