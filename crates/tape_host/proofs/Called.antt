-- What a tape's calls come to.
-- Assumes nothing.
use Rattle.std.proofs.Common.{◌≡◌, ℕ, suc, ◌+◌, ◌<◌, ◌≤◌, Bool, true, false, cond, ◌&&◌, ◌⊎◌, eqb, ltb, List, [], ◌∷◌, map, length, get_or, take, drop, Some, None, Option, is_some, subst, sym, refl, ap, ◌∙◌, ⊎_elim, arith}
use Rattle.std.proofs.lemmas.List.{drop_more, drop_all}
use Rattle.std.proofs.lemmas.Bool.{cases_lt, and_parts, eqb-true, eq-eqb, ne_eqb, lt-ltb, le-ltb}
use Rattle.mysql.specs.declared.bind.Column.{Column}
use Rattle.host.specs.declared.records.BindRecord.{BindRecord}
use Rattle.host.specs.declared.records.Report.{Report}
use Rattle.host.specs.Meanings.{Meaning, no_column}
use Rattle.host.specs.Calls.{in_order, all_end_by, carried, bind_error, allows, record_of, no_bind, with_error, part_error, PartRefused, FailureCame, EndCame, RowCame}
use Rattle.tape.specs.Format as recorded
use Rattle.tape.specs.Unique.{columns_in_one}
use Rattle.tape.specs.declared.event.Row.{Row as RowView}
use Rattle.std.specs.List.{flat_map}
use Rattle.tape_host.specs.declared.current.Current.{Current}
use Rattle.tape_host.specs.declared.tapes.Tape.{Tape}
use Rattle.std.specs.Option.{unwrap_or}
use Rattle.tape_host.specs.Tapes.{shown, event_shown, left_of, row_of, columns_of, current_of, bound_if, bound_of, places_of, means}
use Rattle.tape_host.specs.Codes.{own_codes}
use Rattle.tape_host.specs.Formeds.{left_holds, row_holds}
use Rattle.tape_host.specs.Walks.{Asked}
use Rattle.tape_host.specs.Wholes.{Wrote}
use Rattle.host.specs.Fields.{Field}
use Rattle.tape_host.proofs.Meant.{meaning_of, width_is, RowNext}

-- the record of a column

abbrev pub record_in : Option (List BindRecord) → ℕ → Option BindRecord
record_in o column = elim o [ Some bs ↦ cond (ltb column (length bs)) (Some (get_or bs column no_bind)) None | None ↦ None ]

pub record_some : (o : Option (List BindRecord)) (column : ℕ) → column < length (unwrap_or o []) → record_in o column ≡ Some (get_or (unwrap_or o []) column no_bind)
record_some None column l = absurd (omega arith)
record_some (Some bs) column l = ap (λ (x : Bool). cond x (Some (get_or bs column no_bind)) None) (lt-ltb column (length bs) l)

pub record_past : (o : Option (List BindRecord)) (column : ℕ) → length (unwrap_or o []) ≤ column → record_in o column ≡ None
record_past None column l = refl
record_past (Some bs) column l = ap (λ (x : Bool). cond x (Some (get_or bs column no_bind)) None) (le-ltb column (length bs) l)

-- binding

module _ (t : Tape) where
  abbrev cs : List Column
  cs = columns_of t

  pub carried_is : (k : ℕ) (bs : List BindRecord) → carried (means t) k bs ≡ own_codes (drop k cs) bs
  carried_is k [] = refl
  carried_is k (b ∷ bs) =
      let e : suc k ≡ k + 1 = omega arith in
      ⊎_elim
      (λ (l : k < length cs).
      ap (λ x. (x && eqb b.code (get_or cs k no_column).code) && carried (means t) (suc k) bs) (lt-ltb k (length cs) l)
      ∙ ap (λ x. eqb b.code (get_or cs k no_column).code && x) (carried_is (suc k) bs)
      ∙ ap (λ n. eqb b.code (get_or cs k no_column).code && own_codes (drop n cs) bs) e
      ∙ sym (ap (λ xs. own_codes xs (b ∷ bs)) (drop_more cs k no_column l)))
      (λ (l : length cs ≤ k).
      ap (λ x. (x && eqb b.code (get_or cs k no_column).code) && carried (means t) (suc k) bs) (le-ltb k (length cs) l)
      ∙ sym (ap (λ xs. own_codes xs (b ∷ bs)) (drop_all k cs l)))
      (cases_lt k (length cs))

  module _ (bs : List BindRecord) (n : length bs ≡ length cs) (o : in_order 0 bs ≡ true) where
    pub bind_error_is : (z : Bool) → own_codes cs bs ≡ z → bind_error (means t) bs ≡ cond z 0 2036
    bind_error_is z e =
        ap (λ x. cond (x && in_order 0 bs) (cond (carried (means t) 0 bs) 0 2036) 2034) (eq-eqb (length bs) (length cs) n)
        ∙ ap (λ x. cond x (cond (carried (means t) 0 bs) 0 2036) 2034) o
        ∙ ap (λ x. cond x 0 2036) (carried_is 0 bs ∙ e)

  -- a column that is not bound
  pub part_refused : (column : ℕ) (row : Current) (report : Report) (part : List ℕ) → t.current ≡ Some row → record_of (means t) column ≡ None
      → (m' : Meaning) → m' ≡ with_error 2034 (means t) → PartRefused (means t) m' column report report part part
  part_refused column row report part cur none m' after =
      let h : part_error (means t).current (record_of (means t) column) ≡ 2034 = ap (λ o. part_error (current_of o) (record_of (means t) column)) cur ∙ ap (part_error (current_of (Some row))) none in
      record { error = λ e. omega arith; after = after ∙ ap (λ n. with_error n (means t)) (sym h); same_report = refl; same_part = refl }

  -- what allows a fetch
  pub record Allowed (arena reports : ℕ) : Type 0 where
    pub bound : bound_of t ≡ Some (places_of t)
    pub inside : all_end_by arena (places_of t) ≡ true
    pub reported : reports ≡ length cs

  pub allowed_says : (arena reports : ℕ) → allows (means t) arena reports ≡ true → Allowed arena reports
  allowed_says arena reports e =
      let h = says (bound_of t) e in record { bound = h.0; inside = h.1; reported = h.2 }
    where
      says : (o : Option (List BindRecord)) → elim o [ Some bs ↦ all_end_by arena bs && eqb reports (length cs) | None ↦ false ] ≡ true
          → (o ≡ Some (unwrap_or o [])) × (all_end_by arena (unwrap_or o []) ≡ true) × (reports ≡ length cs)
      says None e = cc
      says (Some bs) e = let p = and_parts (all_end_by arena bs) (eqb reports (length cs)) e in (refl, p.0, eqb-true reports (length cs) p.1)

  module _ (reports : List Report) (arena : List ℕ) (ok : allows (means t) (length arena) (length reports) ≡ true) where
    -- a failure is next
    pub failure_came : (number : ℕ) (others : List recorded.Event) → (left_of t).events ≡ recorded.failure number ∷ others → (m' : Meaning)
        → m' ≡ meaning_of (record { columns = columns_of t; events = others }) None (bound_of t) number → FailureCame (means t) m' reports reports arena arena
    failure_came number others h m' after = record {
      allowed = ok;
      places = places_of t;
      bound = (allowed_says (length arena) (length reports) ok).bound;
      number = number;
      rest = map event_shown others;
      next = ap (map event_shown) h;
      after = after;
      as_many_reports = refl;
      untouched = record { same_length = refl; same_bytes = λ p out. refl };
    }

-- the places are in order
ordered_if : (b : Bool) (bs : List BindRecord) → (b ≡ true → in_order 0 bs ≡ true) → in_order 0 (unwrap_or (bound_if b bs) []) ≡ true
ordered_if false bs h = refl
ordered_if true bs h = h refl

pub places_ordered : (t : Tape) → in_order 0 (places_of t) ≡ true
places_ordered t = ordered_if t.is_bound (take t.width t.records) t.ordered

-- each is bound at its column's own code
coded_if : (b : Bool) (columns : List Column) (bs : List BindRecord) → (b ≡ true → own_codes columns bs ≡ true) → own_codes columns (unwrap_or (bound_if b bs) []) ≡ true
coded_if false columns bs h = refl
coded_if true columns bs h = h refl

pub places_coded : (t : Tape) → own_codes (columns_of t) (places_of t) ≡ true
places_coded t = coded_if t.is_bound (columns_of t) (take t.width t.records) (λ b. t.coded b (columns_of t) (left_holds t).columns_in)

-- another count of records, or places out of order
pub bind_refused : (t : Tape) (bs : List BindRecord) → (length bs ≡ t.width → ⊥) ⊎ (in_order 0 bs ≡ false) → bind_error (means t) bs ≡ 2034
bind_refused t bs h =
    ⊎_elim
    (λ (n : length bs ≡ t.width → ⊥).
    ap (λ (x : Bool). cond (x && in_order 0 bs) (cond (carried (means t) 0 bs) 0 2036) 2034) (ne_eqb (length bs) (length (columns_of t)) (λ e. n (e ∙ sym (width_is t)))))
    (λ (o : in_order 0 bs ≡ false).
    ap (λ (x : Bool). cond (eqb (length bs) (length (columns_of t)) && x) (cond (carried (means t) 0 bs) 0 2036) 2034) o
    ∙ neither (eqb (length bs) (length (columns_of t)))) h
  where
    neither : (b : Bool) → ◌≡◌ {A = ℕ} (cond (b && false) (cond (carried (means t) 0 bs) 0 2036) 2034) 2034
    neither true = refl
    neither false = refl

-- a row, and the places of its columns

pub some_bound : (o : Option (List BindRecord)) → 0 < length (unwrap_or o []) → is_some o ≡ true
some_bound None l = absurd (omega arith)
some_bound (Some bs) l = refl

module _ (t : Tape) (ps : List BindRecord) (are : ps ≡ places_of t) (as_many : length ps ≡ length (columns_of t)) where
  coded_at : own_codes (columns_of t) ps ≡ true
  coded_at = ap (own_codes (columns_of t)) are ∙ places_coded t

  pub asked_current : (c : Current) → c.row.columns.now ≡ t.events.columns.now → Asked c.row ps
  asked_current c columned =
      let listed = subst (λ (bs : List ℕ). recorded.ColumnsIn bs (row_of c).columns) columned (row_holds c).columns_in in
      let same = columns_in_one t.events.columns.now (columns_of t) (row_of c).columns (left_holds t).columns_in listed in
      record {
        contents = row_of c;
        shows = row_holds c;
        as_many = as_many ∙ ap length same;
        coded = ap (λ (cs : List Column). own_codes cs ps) (sym same) ∙ coded_at;
      }

  pub asked_next : (row : RowView) → RowNext (columns_of t) (left_of t).events row → Asked row ps
  asked_next row next = record {
    contents = record { columns = columns_of t; fields = next.fields; rest = flat_map recorded.event_bytes next.others };
    shows = next.shows;
    as_many = as_many;
    coded = coded_at;
  }

-- what a fetch comes to

module _ (t : Tape) (reports : List Report) (arena : List ℕ) (ok : allows (means t) (length arena) (length reports) ≡ true) where
  pub end_came : (left_of t).events ≡ [] → (m' : Meaning) → m' ≡ meaning_of (record { columns = columns_of t; events = [] }) None (bound_of t) 0 → EndCame (means t) m' reports reports arena arena
  end_came none m' after = record { allowed = ok; none_left = ap (map event_shown) none; after = after; same_reports = refl; same_arena = refl }

  pub row_came : (fields : List Field) (others : List recorded.Event) → (left_of t).events ≡ recorded.row fields ∷ others → (m' : Meaning)
      → m' ≡ meaning_of (record { columns = columns_of t; events = others }) (Some (shown fields)) (bound_of t) 0 → (truncated : Bool) (reports' : List Report) (arena' : List ℕ)
      → length reports' ≡ length reports → Wrote fields (places_of t) reports' arena arena' truncated → RowCame truncated (means t) m' reports reports' arena arena'
  row_came fields others next m' after truncated reports' arena' as_many w = record {
    allowed = ok;
    places = places_of t;
    bound = (allowed_says t (length arena) (length reports) ok).bound;
    fields = shown fields;
    rest = map event_shown others;
    next = ap (map event_shown) next;
    after = after;
    as_many_reports = as_many;
    reported = w.reported;
    stands = w.stands;
    untouched = w.untouched;
    marked = w.marked;
  }
