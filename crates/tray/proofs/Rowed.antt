-- A row of a tray, written to its place.
-- Assumes nothing.
use borrow.Rule.Slice.PartMut.{put_mid}
use Rattle.std.proofs.Common.{◌≡◌, ◌&&◌, ℕ, suc, ◌+◌, ◌-◌, ◌<◌, Bool, true, false, cond, ltb, List, [], ◌∷◌, length, get_or, set, Option, Some, None, is_some, refl, ap, ◌∙◌, arith}
use Rattle.std.proofs.lemmas.List.{length-set}
use Rattle.std.proofs.lemmas.Bool.{le-leb}
use Rattle.host.specs.declared.records.BindRecord.{BindRecord}
use Rattle.host.specs.declared.records.Report.{Report}
use Rattle.host.specs.Meanings.{row}
use Rattle.host.specs.Calls.{in_order, no_bind, allows, from_offset, PartReported, Stands, RowCame, record_of}
use Rattle.host.proofs.Written.{none_written, more_written, all_written}
use Rattle.tray.specs.declared.tray.Tray.{Tray}
use Rattle.tray.specs.Rows.{field_of_row, tray_row, rows_from}
use Rattle.tray.specs.Trays.{bound_to, means, Inside}

-- the record of the one column

pub record_bound : (t : Tray) (column : ℕ) → is_some t.place ≡ true → column ≡ 0 → (b : BindRecord) × (record_of (means t) column ≡ Some b)
record_bound t column h e = bound_in t.place h
  where
    bound_in : (o : Option BindRecord) → is_some o ≡ true → (b : BindRecord) × (elim (bound_to o) [ Some bs ↦ cond (ltb column (length bs)) (Some (get_or bs column no_bind)) None | None ↦ None ] ≡ Some b)
    bound_in None h = cc
    bound_in (Some b) h = (b, ap (λ (k : ℕ). cond (ltb k 1) (Some (get_or (b ∷ []) k no_bind)) None) e)

module _ (t : Tray) (place : BindRecord) (reports : List Report) (arena part : List ℕ) (report : Report) (k : ℕ) where
  abbrev long : ℕ
  long = place.start + place.capacity - place.start

  abbrev arena' : List ℕ
  arena' = put_mid place.start long arena part

  -- the tray after a row was taken off
  abbrev taken : Tray
  taken = record { rows = t.rows; taken = t.taken + 1; current = Some k; place = t.place; error = 0 }

  pub row_came : (z : Bool) → allows (means t) (length arena) (length reports) ≡ true → Inside t.place (length arena) (length reports) place
      → k ≡ t.taken + 1 → t.taken < t.rows → length arena' ≡ length arena → length part ≡ long
      → (n : ℕ) → n ≡ long → PartReported (field_of_row k) 0 n report → Stands (from_offset 0 (field_of_row k)) 0 n part → report.is_truncated ≡ z
      → RowCame z (means t) (means taken) reports (set reports 0 report) arena arena'
  row_came z ok at hk some same lp n hn told there hz =
      let inside = at.ends in
      let one = at.one_report in
      let size : long ≡ place.capacity = omega arith in
      let more : t.rows - t.taken ≡ suc (t.rows - (t.taken + 1)) = omega arith in
      let this : t.taken + 1 ≡ k = omega arith in
      let next : suc k ≡ t.taken + 1 + 1 = omega arith in
      let ordered : in_order 0 (place ∷ []) ≡ true = ap (λ b. b && true) (le-leb 0 place.start (omega arith)) in
      let w = all_written (tray_row k) (place ∷ []) (set reports 0 report) arena arena' report.is_truncated 1 refl same
      (more_written (tray_row k) (place ∷ []) reports arena arena false 0 (none_written (tray_row k) (place ∷ []) reports arena) ordered (omega arith) (omega arith) long part report inside size lp
      (field_of_row k) refl n (hn ∙ size) told there) in
      record {
        allowed = ok;
        places = place ∷ [];
        bound = ap bound_to at.is_bound;
        fields = tray_row k;
        rest = rows_from (t.taken + 1 + 1) (t.rows - (t.taken + 1));
        next = ap (rows_from (t.taken + 1)) more ∙ ap (λ (n : ℕ). row (tray_row n) ∷ rows_from (suc n) (t.rows - (t.taken + 1))) this ∙ ap (λ (n : ℕ). row (tray_row k) ∷ rows_from n (t.rows - (t.taken + 1))) next;
        after = refl;
        as_many_reports = length-set reports 0 report;
        reported = w.reported;
        stands = w.stands;
        untouched = w.untouched;
        marked = w.marked ∙ hz;
      }
