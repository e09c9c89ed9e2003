-- The columns of an opening: what the host answers to their places.
use Rattle.std.proofs.Common.{◌≡◌, ℕ, ◌<◌, ◌≤◌, Bool, true, false, cond, eqb, List, ◌++◌, ◌-◌, ◌+◌, length, get_or, take, drop, replicate, Some, Ok, Err, Option, sym, refl, ap, ◌∙◌, arith}
use Rattle.std.proofs.lemmas.List.{ext_get_or, get_or_append_left, get_or-append_right, get_or-replicate, get_or-drop, length-replicate, length-take-le}
use Rattle.std.proofs.lemmas.Bool.{le-ltb}
use Rattle.mysql.specs.declared.bind.Column.{Column}
use Rattle.mysql.specs.declared.fault.Fault.{Fault}
use Rattle.mysql.specs.Answers.{next}
use Rattle.mysql.specs.Faults.{host_failed}
use Rattle.mysql.specs.declared.backend.MysqlType.{MysqlType}
use Rattle.host.specs.Meanings.{Meaning}
use Rattle.host.specs.Calls.{with_error, bind_error, after_bind}
use Rattle.layout.specs.declared.table.ColumnTable.{ColumnTable}
use Rattle.layout.specs.Moves.{Beyond}
use Rattle.layout.specs.Tables.{no_pair, binds, opening_size, OpeningTable}
use Rattle.rows.specs.Bounds.{all_carried, bound}
use Rattle.rows.specs.Dues.{most_bytes, placed, opening}
use Rattle.rows.specs.Standing.{pair_of, pairs_of}
use Rattle.rows.proofs.Pairs.{pairs_length, pair_at, bind_error_is}

pub pairs_are : (pairs : List Column) (n : ℕ) (t : ColumnTable) → OpeningTable pairs n t → pairs_of t ≡ pairs
pairs_are pairs n t o =
    ext_get_or no_pair (pairs_of t) pairs (pairs_length t ∙ o.as_many)
    (λ k l. let m : k < length pairs = omega (arith, pairs_length t, o.as_many) in pair_at t k (omega (arith, o.as_many)) ∙ ap pair_of (o.each k m))

-- the front of an arena, zeroed
module _ (a front : List ℕ) (n : ℕ) (l : n ≤ length a) (e : front ≡ replicate (length (take n a)) 0) where
  as_long : length front ≡ n
  as_long = ap length e ∙ length-replicate (length (take n a)) 0 ∙ length-take-le n a l

  pub zeroed_front : (p : ℕ) → p < n → get_or (front ++ drop n a) p 0 ≡ 0
  zeroed_front p h =
      get_or_append_left front (drop n a) 0 p (omega (arith, as_long)) ∙ ap (λ (bs : List ℕ). get_or bs p 0) e
      ∙ get_or-replicate (length (take n a)) p 0 0 (omega (arith, length-take-le n a l))

  pub kept_behind : Beyond n a (front ++ drop n a)
  kept_behind p h =
      get_or-append_right front (drop n a) n p 0 as_long h ∙ get_or-drop n a (p - n) 0
      ∙ (let there : n + (p - n) ≡ p = omega arith in ap (λ (k : ℕ). get_or a k 0) there)

-- places that fit the arena
pub fits_arena : (n : ℕ) (carries : ℕ → ℕ → Bool) (pairs : List Column) → opening_size pairs ≤ n → placed n carries pairs ≡ cond (all_carried carries 0 pairs) (Ok pairs) (Err (host_failed 2036))
fits_arena n carries pairs l = rw (le-ltb n (opening_size pairs) l) refl

bind_yes : (b : Bool) → eqb (cond b 0 2036) 0 ≡ true → b ≡ true
bind_yes true e = refl
bind_yes false e = cc

bind_no : (b : Bool) → eqb (cond b 0 2036) 0 ≡ false → b ≡ false
bind_no true e = cc
bind_no false e = refl

module _ (m m' : Meaning) (pairs : List Column) (n : ℕ) (t : ColumnTable) (r : Bool)
    (o : OpeningTable pairs n t) (as_many : length pairs ≡ length m.columns) (fits : opening_size pairs ≤ n)
    (answer : r ≡ eqb (bind_error m (binds t)) 0) (after : m' ≡ after_bind m (binds t)) where
  error_is : bind_error m (binds t) ≡ cond (all_carried m.carries 0 pairs) 0 2036
  error_is = rw (bind_error_is m t (o.as_many ∙ as_many), pairs_are pairs n t o) refl

  module _ (yes : r ≡ true) where
    pub all_there : all_carried m.carries 0 pairs ≡ true
    all_there = bind_yes (all_carried m.carries 0 pairs) (sym (ap (λ (e : ℕ). eqb e 0) error_is) ∙ sym answer ∙ yes)

    pub granted_due : placed n m.carries pairs ≡ Ok pairs
    granted_due = fits_arena n m.carries pairs fits ∙ rw all_there refl

    no_error : bind_error m (binds t) ≡ 0
    no_error = error_is ∙ rw all_there refl

    pub granted_host : m' ≡ record { columns = m.columns; carries = m.carries; coming = m.coming; current = m.current; bound = Some (binds t); error = 0 }
    granted_host = after ∙ rw no_error refl

  module _ (no : r ≡ false) where
    missing : all_carried m.carries 0 pairs ≡ false
    missing = bind_no (all_carried m.carries 0 pairs) (sym (ap (λ (e : ℕ). eqb e 0) error_is) ∙ sym answer ∙ no)

    pub an_error : bind_error m (binds t) ≡ 2036
    an_error = error_is ∙ rw missing refl

    pub refused_host : m' ≡ with_error 2036 m
    refused_host = after ∙ rw an_error refl

    pub refused_due : placed n m.carries pairs ≡ Err (host_failed 2036)
    refused_due = fits_arena n m.carries pairs fits ∙ rw missing refl

-- an opening whose checks pass answers as its columns are placed
past_both : (n : ℕ) (carries : ℕ → ℕ → Bool) (wanted : List (Option MysqlType)) (columns : List Column) (opened : Bool) → opened ≡ false → n ≤ 65536 → opening opened n carries wanted columns ≡ next (bound wanted columns) (placed n carries)
past_both n carries wanted columns opened e l =
    rw (e, le-ltb most_bytes n l) refl

pub opened_due : (n : ℕ) (carries : ℕ → ℕ → Bool) (wanted : List (Option MysqlType)) (columns pairs : List Column) (opened : Bool) → opened ≡ false → n ≤ 65536
    → bound wanted columns ≡ Ok pairs → opening opened n carries wanted columns ≡ placed n carries pairs
opened_due n carries wanted columns pairs opened e l b =
    past_both n carries wanted columns opened e l ∙ rw b refl

-- where a column is refused, so is the opening
pub opened_refused : (n : ℕ) (carries : ℕ → ℕ → Bool) (wanted : List (Option MysqlType)) (columns : List Column) (f : Fault) (opened : Bool) → opened ≡ false → n ≤ 65536
    → bound wanted columns ≡ Err f → opening opened n carries wanted columns ≡ Err f
opened_refused n carries wanted columns f opened e l b =
    past_both n carries wanted columns opened e l ∙ rw b refl
