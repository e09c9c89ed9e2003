-- What a reading finds in a column's place.
use Rattle.std.proofs.Common.{◌≡◌, ℕ, ◌+◌, ◌<◌, ◌≤◌, Bool, true, false, cond, ◌&&◌, eqb, ltb, List, length, get_or, take, drop, Some, None, Ok, Err, Option, Result, MatchResult, IsErrAnd, MatchOption, IsSomeAnd, sym, refl, ap, ◌∙◌, arith}
use Rattle.std.proofs.lemmas.List.{get_or-take, get_or-drop, length-take, length-drop, ext_get_or}
use Rattle.std.proofs.lemmas.Bool.{and_parts, eqb-true, lt-ltb, ltb-true}
use Rattle.mysql.specs.declared.backend.MysqlType.{MysqlType}
use Rattle.mysql.specs.declared.bind.Column.{Column}
use Rattle.mysql.specs.declared.fault.Fault.{Fault}
use Rattle.mysql.specs.declared.fault.Refusal.TheVariants.{Unopened, ArenaLength, NoSuchColumn, NoCurrentRow}
use Rattle.mysql.specs.Faults.{refused, at_column}
use Rattle.mysql.specs.Types.{type_of}
use Rattle.host.specs.Fields.{Field, null, held}
use Rattle.host.specs.Meanings.{Row, Meaning}
use Rattle.layout.specs.declared.record.ColumnRecord.{ColumnRecord}
use Rattle.layout.specs.declared.table.ColumnTable.{ColumnTable}
use Rattle.layout.specs.Columns.{bytes_of, Fits}
use Rattle.layout.specs.Tables.{count_of, col, start}
use Rattle.layout.proofs.Spans.{inside}
use Rattle.rows.proofs.Pairs.{pairs_length, pair_at}
use Rattle.session.specs.declared.state.Opened.{Opened}
use Rattle.session.specs.declared.state.Session.{Session}
use Rattle.session.specs.Stages.{shown, table}
use Rattle.session.specs.declared.state.Value.{Value}
use Rattle.readings.specs.declared.value.MysqlValue.{MysqlValue}
use Rattle.readings.specs.Nulls.{nullable}
use Rattle.rows.specs.Bounds.{field_at}
use Rattle.rows.specs.Dues.{faulted, read_as, field_shown, row_shown, read}
use Rattle.rows.specs.Standing.{pair_of, pairs_of, StandsWhole}
use Rattle.session.specs.Sessions.{table_of, session_of, is_open, is_shown, Sound, Holds, shown_row, passes, past_checks, record_shown, looked, reading, viewed}

-- a fault that names a column
pub fault_at : {X : Type 0} (k : ℕ) (P : Fault → Fault → Type 0) → ((e f : Fault) → P e f → f ≡ at_column e k) → (r q : Result X Fault) → MatchResult r (λ x. q ≡ Ok x) (λ e. IsErrAnd q (P e)) → q ≡ faulted k r
fault_at k P said (Ok x) q h = h
fault_at k P said (Err e) (Ok x) h = absurd h
fault_at k P said (Err e) (Err f) h = ap Err (said e f h)

pub kind_is : {X : Type 0} (k : ℕ) (r : Result X Fault) (x : X) → faulted k r ≡ Ok x → r ≡ Ok x
kind_is k (Ok y) x e = e
kind_is k (Err f) x e = cc

-- what is read of a value that is shown
pub raw_of : Option Value → Option MysqlValue
raw_of None = None
raw_of (Some v) = Some v.value

pub raw_is : (P : Value → MysqlValue → Type 0) → ((v : Value) (x : MysqlValue) → P v x → x ≡ v.value) → (o : Option Value) (q : Option MysqlValue) → MatchOption o (q ≡ None) (λ v. IsSomeAnd q (P v)) → q ≡ raw_of o
unfolding raw_of
raw_is P said None q h = h
raw_is P said (Some v) None h = absurd h
raw_is P said (Some v) (Some x) h = ap Some (said v x h)

nullable_is : {X : Type 0} (reads : MysqlType → List ℕ → Result X Fault) (k : ℕ) (o : Option Value) → faulted k (nullable reads (raw_of o)) ≡ read_as reads k (Ok (viewed o))
unfolding raw_of
nullable_is reads k None = refl
nullable_is reads k (Some v) = refl

pub typed_is : {X : Type 0} (reads : MysqlType → List ℕ → Result X Fault) (k : ℕ) (o : Option Value) (v : Option MysqlValue) (x : Result X Fault) → v ≡ raw_of o → x ≡ nullable reads v → faulted k x ≡ read_as reads k (Ok (viewed o))
typed_is reads k o v x p q = ap (faulted k) (q ∙ ap (nullable reads) p) ∙ nullable_is reads k o

-- a value that fits its place ends inside the arena
pub bytes_inside : (t : ColumnTable) (k : ℕ) → k < count_of t → Fits (col t k) → (col t k).is_null ≡ false → start t k + bytes_of (col t k) ≤ t.room
bytes_inside t k l fit e = omega (arith, inside t k l, fit e, t.within)

both_passed : {X : Type 0} (opened same : Bool) (x y : X) → cond opened (cond same (Ok x) (Err (refused ArenaLength))) (Err (refused Unopened)) ≡ Ok y → (opened && same) ≡ true
both_passed true true x y e = refl
both_passed true false x y e = cc
both_passed false same x y e = cc

not_both_passed : {X : Type 0} (opened same : Bool) (x : X) (f : Fault) → cond opened (cond same (Ok x) (Err (refused ArenaLength))) (Err (refused Unopened)) ≡ Err f → (opened && same) ≡ false
not_both_passed true true x f e = cc
not_both_passed true false x f e = refl
not_both_passed false same x f e = refl

refused_both : {X Y : Type 0} (opened same : Bool) (x : X) (y : Result Y Fault) (f : Fault) → cond opened (cond same (Ok x) (Err (refused ArenaLength))) (Err (refused Unopened)) ≡ Err f → cond opened (cond same y (Err (refused ArenaLength))) (Err (refused Unopened)) ≡ Err f
refused_both true true x y f e = cc
refused_both true false x y f e = cc
refused_both false same x y f e = cc

-- the two checks
module _ {H X : Type 0} (s : Session H) (a : List ℕ) (x y : X) where
  pub passed : past_checks s (length a) (Ok x) ≡ Ok y → passes s a ≡ true
  passed e = both_passed (is_open s) (eqb (length a) (table_of s).room) x y e

  pub not_passed : (f : Fault) → past_checks s (length a) (Ok x) ≡ Err f → passes s a ≡ false
  not_passed f e = not_both_passed (is_open s) (eqb (length a) (table_of s).room) x f e

module _ {H X Y : Type 0} (s : Session H) (a : List ℕ) (x : X) (y : Result Y Fault) where
  -- whatever comes after checks that refuse, they refuse
  pub refused_past : (f : Fault) → past_checks s (length a) (Ok x) ≡ Err f → past_checks s (length a) y ≡ Err f
  refused_past f e = refused_both (is_open s) (eqb (length a) (table_of s).room) x y f e

-- a session that is opened
module _ {H : Type 0} (s : Session H) (o : Opened) (is : s.opened ≡ Some o) where
  pub parts : session_of s.host o s.reports s.spare ≡ s
  parts = ap (λ (x : Option Opened). record { host = s.host; opened = x; reports = s.reports; spare = s.spare }) (sym is)

  -- its checks come to that of the arena
  pub checked : {X : Type 0} (a : List ℕ) (x : Result X Fault) → cond (eqb (length a) o.table.room) x (Err (refused ArenaLength)) ≡ past_checks s (length a) x
  checked a x = ap (λ (z : Session H). past_checks z (length a) x) parts

module _ {H : Type 0} (s : Session H) (a : List ℕ) (p : passes s a ≡ true) where
  pub is_opened : is_open s ≡ true
  is_opened = (and_parts (is_open s) (eqb (length a) (table_of s).room) p).0

  pub is_as_long : length a ≡ (table_of s).room
  is_as_long = eqb-true (length a) (table_of s).room (and_parts (is_open s) (eqb (length a) (table_of s).room) p).1

  -- checks that pass leave what comes after them
  pub past : {X : Type 0} (x : Result X Fault) → past_checks s (length a) x ≡ x
  past x =
      let q = and_parts (is_open s) (eqb (length a) (table_of s).room) p in
      rw (q.0, q.1) refl

-- bytes that are read where a row is shown and the column is not null
pub reads_bytes : (shown : Bool) (t : ColumnTable) (a : List ℕ) (k : ℕ) (tpe : MysqlType) (bytes : List ℕ) → k < count_of t → shown ≡ true
    → (col t k).is_null ≡ false → type_of (col t k).code (col t k).flags ≡ Ok tpe
    → bytes ≡ take (bytes_of (col t k)) (drop (start t k) a)
    → Ok (Some (record { tpe = tpe; bytes = bytes })) ≡ looked shown t a k
reads_bytes shown t a k tpe bytes l h n e b = sym (rw (lt-ltb k (count_of t) l, h, n, e, b) refl)

-- what is read of an opened session where the checks pass
pub looked_is : {H : Type 0} (s : Session H) (o : Opened) → s.opened ≡ Some o → (a : List ℕ) (k : ℕ) → passes s a ≡ true → looked o.shown o.table a k ≡ reading s a k
looked_is s o is a k p = ap (λ (z : Session _). looked (is_shown z) (table_of z) a k) (parts s o is) ∙ sym (past s a p (looked (is_shown s) (table_of s) a k))

-- bytes that stand one after the other are those of the part
pub part_is : (bs a : List ℕ) (at n : ℕ) → n ≡ length bs → at + n ≤ length a → ((j : ℕ) → j < length bs → get_or a (at + j) 0 ≡ get_or bs j 0) → take n (drop at a) ≡ bs
part_is bs a at n e l h =
    let len : length (take n (drop at a)) ≡ length bs = simp (length-take, length-drop) (omega arith) in
    ext_get_or 0 (take n (drop at a)) bs len (λ j g. get_or-take n (drop at a) j 0 (omega arith) ∙ get_or-drop at a j 0 ∙ h j (omega arith))

-- a column that holds a field whole shows it
whole_shown : (k : ℕ) (c : ColumnRecord) (f : Field) (a : List ℕ) → (c.is_null ≡ false → c.start + bytes_of c ≤ length a) → StandsWhole f c a → record_shown k c a ≡ field_shown k (pair_of c) f
whole_shown k c null a i w = rw w refl
whole_shown k c (held lost bs) a i w =
    rw (w.0, part_is bs a c.start (bytes_of c) w.1 (i w.0) w.2) refl

-- where a row is shown, each column fits its place
fit_of : (o : Option Opened) → shown o ≡ true → (k : ℕ) → k < count_of (table o) → Fits (col (table o) k)
fit_of None e k l = cc
fit_of (Some o) e k l = o.fit e k l

module _ {H : Type 0} (m : Meaning) (s : Session H) (a : List ℕ) (k : ℕ) (sound : Sound m s) (holds : Holds m s a) (p : passes s a ≡ true) where
  abbrev t : ColumnTable
  t = table_of s

  long : length a ≡ t.room
  long = is_as_long s a p

  -- by the row that is shown
  by_row : k < count_of t → (o : Option Row) (b : Bool) → is_shown s ≡ b → shown_row m s ≡ o → cond b m.current None ≡ o
      → cond b (record_shown k (col t k) a) (Err (refused NoCurrentRow)) ≡ row_shown (pairs_of t) o k
  by_row l None true hs e q = absurd (sound.a_row hs q)
  by_row l None false hs e q = refl
  by_row l (Some r) false hs e q = cc
  by_row l (Some r) true hs e q =
      let c = col t k in
      let i : c.is_null ≡ false → c.start + bytes_of c ≤ length a = λ n. omega (arith, long, bytes_inside t k l (fit_of s.opened hs k l) n) in
      whole_shown k c (field_at r k (pair_of c)) a i (holds.whole r e k l)
      ∙ ap (λ (p : Column). field_shown k p (field_at r k p)) (sym (pair_at t k l))

  by_column : (b : Bool) → ltb k (count_of t) ≡ b → cond b (cond (is_shown s) (record_shown k (col t k) a) (Err (refused NoCurrentRow))) (Err (refused NoSuchColumn)) ≡ cond b (row_shown (pairs_of t) (shown_row m s) k) (Err (refused NoSuchColumn))
  by_column true e = by_row (ltb-true k (count_of t) e) (shown_row m s) (is_shown s) refl refl refl
  by_column false e = refl

  pub reads_row : reading s a k ≡ read (pairs_of t) (shown_row m s) k
  reads_row =
      past s a p (looked (is_shown s) t a k)
      ∙ by_column (ltb k (count_of t)) refl
      ∙ ap (λ (n : ℕ). cond (ltb k n) (row_shown (pairs_of t) (shown_row m s) k) (Err (refused NoSuchColumn))) (sym (pairs_length t))
