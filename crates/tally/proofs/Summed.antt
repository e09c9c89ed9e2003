-- Reports and events, counted one after the other.
-- Assumes nothing.
use Rattle.std.proofs.Common.{◌≡◌, ℕ, suc, ◌+◌, ◌^◌, ◌<◌, Bool, true, false, cond, ◌&&◌, eqb, ◌⊎◌, List, [], ◌∷◌, length, get_or, Some, None, Option, fold, sum_by, sym, refl, ap, ◌∙◌, subst, inl, inr, ⊎_elim, arith}
use Rattle.std.proofs.lemmas.List.{length-map}
use Rattle.std.proofs.lemmas.List.Sums.{sum_by-cons}
use Rattle.std.proofs.lemmas.Bool.{cases_Bool, eq-eqb}
use Rattle.mysql.specs.declared.bind.Column.{Column}
use Rattle.host.specs.declared.records.BindRecord.{BindRecord}
use Rattle.host.specs.declared.records.Report.{Report}
use Rattle.host.specs.declared.records.Fetched.{Fetched}
use Rattle.host.specs.declared.records.Fetched.TheVariants as answer
use Rattle.host.specs.Fields.{Field, null, held}
use Rattle.host.specs.Meanings.{Row, Event, row, failure, Meaning}
use Rattle.host.specs.Calls.{no_bind, no_report, field_of, Reported, in_order, all_end_by, carried, bind_error, after_bind, allows, NotAllowed, FailureCame, RowCame, Fetches}
use Rattle.host.proofs.Bound.{bind_after}
use Rattle.tally.specs.declared.totals.Totals.{Totals}
use Rattle.tally.specs.Tallies.{own_record, own_records, null_count, byte_count, row_sum, rows_in, failures_in, fields_in, capped, NoCount}
use Rattle.tally.specs.Reports.{nulls_of, bytes_of, null_reports, byte_reports, with_report, with_row}

-- reports, added one after the other

same : (t : Totals) (nulls bytes : ℕ) → t.nulls ≡ nulls → t.bytes ≡ bytes → t ≡ record { rows = t.rows; failures = t.failures; nulls = nulls; bytes = bytes }
same t nulls bytes n b = ap (λ x. record { rows = t.rows; failures = t.failures; nulls = x; bytes = t.bytes }) n ∙ ap (λ x. record { rows = t.rows; failures = t.failures; nulls = nulls; bytes = x }) b

pub reports_added : (rs : List Report) (t : Totals) → t.nulls < 2 ^ 64 → t.bytes < 2 ^ 64
    → fold with_report t rs ≡ record { rows = t.rows; failures = t.failures; nulls = capped (t.nulls + null_reports rs); bytes = capped (t.bytes + byte_reports rs) }
reports_added [] t n b = same t _ _ (omega arith) (omega arith)
reports_added (r ∷ rs) t n b =
    (elim r.is_null as (λ z. null_reports (r ∷ rs) ≡ cond z 1 0 + null_reports rs → byte_reports (r ∷ rs) ≡ cond z 0 r.length + byte_reports rs
    → fold with_report (cond z (record t { nulls = capped (t.nulls + 1) }) (record t { bytes = capped (t.bytes + r.length) })) rs
    ≡ record { rows = t.rows; failures = t.failures; nulls = capped (t.nulls + null_reports (r ∷ rs)); bytes = capped (t.bytes + byte_reports (r ∷ rs)) }) [
      | true ↦ λ p q. reports_added rs (record t { nulls = capped (t.nulls + 1) }) (omega arith) b ∙ same _ _ _ (omega arith) (omega arith)
      | false ↦ λ p q. reports_added rs (record t { bytes = capped (t.bytes + r.length) }) n (omega arith) ∙ same _ _ _ (omega arith) (omega arith)
    ]) (sum_by-cons nulls_of r rs) (sum_by-cons bytes_of r rs)

-- reports count for what their fields count for

null_one : (f : Field) (n : ℕ) (r : Report) → Reported f n r → nulls_of r ≡ null_count f
null_one null n r h = ap (λ b. cond b 1 0) h.0
null_one (held lost bs) n r h = ap (λ b. cond b 1 0) h.0

byte_one : (f : Field) (n : ℕ) (r : Report) → Reported f n r → bytes_of r ≡ byte_count f
byte_one null n r h = ap (λ b. cond b 0 r.length) h.0
byte_one (held lost bs) n r h = ap (λ b. cond b 0 r.length) h.0 ∙ h.1

module _ (fields : Row) where
  abbrev pub AllReported : ℕ → List BindRecord → List Report → Type 0
  AllReported i ps rs = (k : ℕ) → k < length ps → Reported (field_of fields (i + k) (get_or ps k no_bind)) (get_or ps k no_bind).capacity (get_or rs k no_report)

  first_reported : (i : ℕ) (p : BindRecord) (ps : List BindRecord) (r : Report) (rs : List Report) → AllReported i (p ∷ ps) (r ∷ rs) → Reported (field_of fields i p) p.capacity r
  first_reported i p ps r rs h = let z : i + 0 ≡ i = omega arith in subst (λ (n : ℕ). Reported (field_of fields n p) p.capacity r) z (h 0 (omega arith))

  rest_reported : (i : ℕ) (p : BindRecord) (ps : List BindRecord) (r : Report) (rs : List Report) → AllReported i (p ∷ ps) (r ∷ rs) → AllReported (suc i) ps rs
  rest_reported i p ps r rs h k l =
      let z : i + suc k ≡ suc i + k = omega arith in
      subst (λ (n : ℕ). Reported (field_of fields n (get_or ps k no_bind)) (get_or ps k no_bind).capacity (get_or rs k no_report)) z (h (suc k) (omega arith))

  -- where a report counts for what its field counts for, the reports count for what the row counts for
  pub counts_are : (of_report : Report → ℕ) (of_field : Field → ℕ) → ((f : Field) (n : ℕ) (r : Report) → Reported f n r → of_report r ≡ of_field f)
      → (i : ℕ) (ps : List BindRecord) (rs : List Report) → length rs ≡ length ps → AllReported i ps rs → sum_by of_report rs ≡ row_sum of_field fields i ps
  counts_are of_report of_field fits i [] [] n h = refl
  counts_are of_report of_field fits i [] (r ∷ rs) n h = absurd (omega arith)
  counts_are of_report of_field fits i (p ∷ ps) [] n h = absurd (omega arith)
  counts_are of_report of_field fits i (p ∷ ps) (r ∷ rs) n h =
      let a = fits (field_of fields i p) p.capacity r (first_reported i p ps r rs h) in
      let b = counts_are of_report of_field fits (suc i) ps rs (omega arith) (rest_reported i p ps r rs h) in
      sum_by-cons of_report r rs ∙ omega arith

-- places without room are in order and end by the end of any arena

pub own_in_order : (cs : List Column) → in_order 0 (own_records cs) ≡ true
own_in_order [] = refl
own_in_order (c ∷ cs) = own_in_order cs

pub own_inside : (cs : List Column) → all_end_by 0 (own_records cs) ≡ true
own_inside [] = refl
own_inside (c ∷ cs) = own_inside cs

-- What is counted, and what is to come, are together what was to come. The columns stay bound.
pub record Going (t : Totals) (m m₀ : Meaning) : Type 0 where
  pub columns : m.columns ≡ m₀.columns
  pub carries : m.carries ≡ m₀.carries
  pub bound : m.bound ≡ Some (own_records m₀.columns)
  pub rows : capped (t.rows + rows_in m.coming) ≡ capped (rows_in m₀.coming)
  pub failures : capped (t.failures + failures_in m.coming) ≡ capped (failures_in m₀.coming)
  pub nulls : capped (t.nulls + fields_in null_count (own_records m₀.columns) m.coming) ≡ capped (fields_in null_count (own_records m₀.columns) m₀.coming)
  pub bytes : capped (t.bytes + fields_in byte_count (own_records m₀.columns) m.coming) ≡ capped (fields_in byte_count (own_records m₀.columns) m₀.coming)
  pub rows_fit : t.rows < 2 ^ 64
  pub failures_fit : t.failures < 2 ^ 64
  pub nulls_fit : t.nulls < 2 ^ 64
  pub bytes_fit : t.bytes < 2 ^ 64

sum_more : (t x y whole : ℕ) → capped (t + (x + y)) ≡ whole → capped (capped (t + x) + y) ≡ whole
sum_more t x y whole h = omega arith

module _ (t : Totals) (m m₀ : Meaning) (g : Going t m m₀) where
  abbrev bs : List BindRecord
  bs = own_records m₀.columns

  -- a row more
  pub going_row : (m' : Meaning) (fields : Row) (rest : List Event) (places : List BindRecord) (rs : List Report)
      → m.coming ≡ row fields ∷ rest → m.bound ≡ Some places
      → m' ≡ record { columns = m.columns; carries = m.carries; coming = rest; current = Some fields; bound = m.bound; error = 0 }
      → length rs ≡ length m₀.columns
      → ((k : ℕ) → k < length places → Reported (field_of fields k (get_or places k no_bind)) (get_or places k no_bind).capacity (get_or rs k no_report))
      → Going (with_row rs t) m' m₀
  going_row m' fields rest places rs next b after n told =
      let same : places ≡ bs = let h = g.bound in cc in
      let told' : AllReported fields 0 bs rs = subst (λ (ps : List BindRecord). AllReported fields 0 ps rs) same
      (λ k l. let z : k ≡ 0 + k = omega arith in subst (λ (i : ℕ). Reported (field_of fields i (get_or places k no_bind)) (get_or places k no_bind).capacity (get_or rs k no_report)) z (told k l)) in
      let long : length rs ≡ length bs = n ∙ sym (length-map m₀.columns own_record) in
      let ns = counts_are fields nulls_of null_count null_one 0 bs rs long told' in
      let ys = counts_are fields bytes_of byte_count byte_one 0 bs rs long told' in
      let coming : m'.coming ≡ rest = ap (λ (x : Meaning). x.coming) after in
      record {
        columns = ap (λ (x : Meaning). x.columns) after ∙ g.columns;
        carries = ap (λ (x : Meaning). x.carries) after ∙ g.carries;
        bound = ap (λ (x : Meaning). x.bound) after ∙ g.bound;
        rows = ap (λ es. capped (capped (t.rows + 1) + rows_in es)) coming ∙ sum_more t.rows 1 (rows_in rest) _ (sym (ap (λ es. capped (t.rows + rows_in es)) next) ∙ g.rows);
        failures = ap (λ es. capped (t.failures + failures_in es)) coming ∙ (sym (ap (λ es. capped (t.failures + failures_in es)) next) ∙ g.failures);
        nulls = ap (λ es. capped (capped (t.nulls + null_reports rs) + fields_in null_count bs es)) coming
            ∙ ap (λ x. capped (capped (t.nulls + x) + fields_in null_count bs rest)) ns
            ∙ sum_more t.nulls (row_sum null_count fields 0 bs) (fields_in null_count bs rest) _ (sym (ap (λ es. capped (t.nulls + fields_in null_count bs es)) next) ∙ g.nulls);
        bytes = ap (λ es. capped (capped (t.bytes + byte_reports rs) + fields_in byte_count bs es)) coming
            ∙ ap (λ x. capped (capped (t.bytes + x) + fields_in byte_count bs rest)) ys
            ∙ sum_more t.bytes (row_sum byte_count fields 0 bs) (fields_in byte_count bs rest) _ (sym (ap (λ es. capped (t.bytes + fields_in byte_count bs es)) next) ∙ g.bytes);
        rows_fit = omega arith;
        failures_fit = g.failures_fit;
        nulls_fit = omega arith;
        bytes_fit = omega arith;
      }

  -- a failure more
  pub going_failure : (m' : Meaning) (number : ℕ) (rest : List Event) (more : ℕ) → m.coming ≡ failure number ∷ rest → more ≡ capped (t.failures + 1)
      → m' ≡ record { columns = m.columns; carries = m.carries; coming = rest; current = None; bound = m.bound; error = number }
      → Going (record { rows = t.rows; failures = more; nulls = t.nulls; bytes = t.bytes }) m' m₀
  going_failure m' number rest more next e after =
      let coming : m'.coming ≡ rest = ap (λ (x : Meaning). x.coming) after in
      record {
        columns = ap (λ (x : Meaning). x.columns) after ∙ g.columns;
        carries = ap (λ (x : Meaning). x.carries) after ∙ g.carries;
        bound = ap (λ (x : Meaning). x.bound) after ∙ g.bound;
        rows = ap (λ es. capped (t.rows + rows_in es)) coming ∙ (sym (ap (λ es. capped (t.rows + rows_in es)) next) ∙ g.rows);
        failures = ap (λ es. capped (more + failures_in es)) coming ∙ ap (λ x. capped (x + failures_in rest)) e
            ∙ sum_more t.failures 1 (failures_in rest) _ (sym (ap (λ es. capped (t.failures + failures_in es)) next) ∙ g.failures);
        nulls = ap (λ es. capped (t.nulls + fields_in null_count bs es)) coming ∙ (sym (ap (λ es. capped (t.nulls + fields_in null_count bs es)) next) ∙ g.nulls);
        bytes = ap (λ es. capped (t.bytes + fields_in byte_count bs es)) coming ∙ (sym (ap (λ es. capped (t.bytes + fields_in byte_count bs es)) next) ∙ g.bytes);
        rows_fit = g.rows_fit;
        failures_fit = omega arith;
        nulls_fit = g.nulls_fit;
        bytes_fit = g.bytes_fit;
      }

-- a fetch stays allowed
pub still_allowed : (t : Totals) (m m₀ : Meaning) (n : ℕ) → Going t m m₀ → n ≡ length m₀.columns → allows m 0 n ≡ true
still_allowed t m m₀ n g h =
    ap (λ (o : Option (List BindRecord)). elim o [ Some bs ↦ all_end_by 0 bs && eqb n (length m.columns) | None ↦ false ]) g.bound
    ∙ ap (λ b. b && eqb n (length m.columns)) (own_inside m₀.columns)
    ∙ eq-eqb n (length m.columns) (h ∙ ap length (sym g.columns))

pub failed_came : (m m' : Meaning) (rs rs' : List Report) (a a' : List ℕ) → allows m (length a) (length rs) ≡ true → NotAllowed m m' rs rs' a a' ⊎ FailureCame m m' rs rs' a a' → FailureCame m m' rs rs' a a'
failed_came m m' rs rs' a a' ok (inl h) = let e = h.refused in cc
failed_came m m' rs rs' a a' ok (inr h) = h

pub fewer : {X : Type 0} (xs ys rest : List X) (x : X) → xs ≡ x ∷ rest → ys ≡ rest → length ys < length xs
fewer xs ys rest x e h = omega (arith, ap length e, ap length h)

-- binding each column at its own code

module _ (m m' : Meaning) (bs : List BindRecord) (e : bs ≡ own_records m.columns) (after : m' ≡ after_bind m bs) where
  abbrev own : List BindRecord
  own = own_records m.columns

  own_error : (z : Bool) → carried m 0 own ≡ z → bind_error m own ≡ cond z 0 2036
  own_error z h =
      ap (λ x. cond (x && in_order 0 own) (cond (carried m 0 own) 0 2036) 2034) (eq-eqb (length own) (length m.columns) (length-map m.columns own_record))
      ∙ ap (λ x. cond x (cond (carried m 0 own) 0 2036) 2034) (own_in_order m.columns)
      ∙ ap (λ x. cond x 0 2036) h

  after_own : m' ≡ after_bind m own
  after_own = after ∙ ap (after_bind m) e

  pub no_count : false ≡ eqb (bind_error m bs) 0 → NoCount m m'
  no_count refused = ⊎_elim
      (λ (h : carried m 0 own ≡ true).
      let x = refused ∙ ap (λ ys. eqb (bind_error m ys) 0) e ∙ ap (λ n. eqb n 0) (own_error true h) in
      cc)
      (λ (h : carried m 0 own ≡ false). record {
        lacks = h;
        after = after_own ∙ sym (bind_after m own 2036 (own_error false h));
      })
      (cases_Bool (carried m 0 own))

-- a fetch that brought a row, truncated or not
pub row_fetched : {r : Fetched} (m m' : Meaning) (rs rs' : List Report) (a a' : List ℕ) → (r ≡ answer.Row) ⊎ (r ≡ answer.Truncated) → Fetches r m m' rs rs' a a' → (z : Bool) × RowCame z m m' rs rs' a a'
row_fetched m m' rs rs' a a' (inl e) h = (false, subst (λ (r : Fetched). Fetches r m m' rs rs' a a') e h)
row_fetched m m' rs rs' a a' (inr e) h = (true, subst (λ (r : Fetched). Fetches r m m' rs rs' a a') e h)
