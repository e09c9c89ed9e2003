-- What the reports of a row say of it: its need, the capacities that it asks for, and whether a figure of it was lost.
use Rattle.std.proofs.Common.{◌≡◌, ℕ, zero, suc, ◌+◌, ◌<◌, max, Bool, true, false, cond, ◌||◌, ltb, List, [], ◌∷◌, map, length, get_or, Some, None, Option, sym, refl, ap, ◌∙◌, arith}
use Rattle.std.proofs.lemmas.List.Sums.{sum_by-cons}
use Rattle.std.proofs.lemmas.Bool.{le-ltb, ltb-true, ltb-false}
use Rattle.mysql.specs.declared.bind.Column.{Column}
use Rattle.mysql.specs.Types.{size_of}
use Rattle.host.specs.declared.records.Report.{Report}
use Rattle.host.specs.Fields.{Field, null, held}
use Rattle.host.specs.Meanings.{Row}
use Rattle.host.specs.Calls.{Reported}
use Rattle.layout.specs.declared.record.ColumnRecord.{ColumnRecord}
use Rattle.layout.specs.Columns.{no_record, counted, widened, wanted, sum}
use Rattle.layout.specs.Tables.{no_pair}
use Rattle.rows.specs.Bounds.{field_at, field_need, row_need, loses, first_loss}
use Rattle.rows.specs.Standing.{pair_of, widened_to, wide_sum}
use Rattle.rows.proofs.Columned.{FieldOf}

-- one field

pub counted_is : (f : Field) (size : Option ℕ) (n : ℕ) (report : Report) → Reported f n report → counted size report.is_null report.length ≡ field_need size f
counted_is f (Some size) n report w = refl
counted_is null None n report w = ap (λ (b : Bool). counted None b report.length) w.0
counted_is (held lost bs) None n report w = ap (λ (b : Bool). counted None b report.length) w.0 ∙ ap (max 1) w.1

max_by_test : (n k : ℕ) (b : Bool) → ltb n k ≡ b → max n k ≡ cond b k n
max_by_test n k true e = let l = ltb-true n k e in omega arith
max_by_test n k false e = let l = ltb-false n k e in omega arith

pub widened_is : (f : Field) (size : Option ℕ) (n : ℕ) (report : Report) → Reported f n report → widened size report.is_null n report.length ≡ widened_to size f n
widened_is f (Some size) n report w = refl
widened_is null None n report w = ap (λ (b : Bool). widened None b n report.length) w.0
widened_is (held lost bs) None n report w =
    ap (λ (b : Bool). widened None b n report.length) w.0 ∙ ap (max n) w.1 ∙ max_by_test n (length bs) (ltb n (length bs)) refl

-- at a fixed code nothing but a lost figure is marked
pub loses_is : (f : Field) (size n : ℕ) (report : Report) → FieldOf (Some size) f → n ≡ size → Reported f n report → loses (Some size) f ≡ report.is_truncated
loses_is null size n report a e w = sym w.1
loses_is (held lost bs) size n report a e w = sym (w.2 ∙ ap (λ (b : Bool). b || lost) (le-ltb n (length bs) (omega (arith, a))))

-- whole rows

module _ (r : Row) where
  pub need_is : (i : ℕ) (cs : List ColumnRecord) → ((k : ℕ) → k < length cs → wanted true (get_or cs k no_record) ≡ field_need (size_of (get_or cs k no_record).code) (field_at r (i + k) (pair_of (get_or cs k no_record))))
      → sum true cs ≡ row_need r i (map pair_of cs)
  need_is i [] h = refl
  need_is i (c ∷ cs) h =
      let z : i + 0 ≡ i = omega arith in
      let first : wanted true c ≡ field_need (size_of c.code) (field_at r i (pair_of c)) = h 0 (omega arith) ∙ ap (λ (n : ℕ). field_need (size_of c.code) (field_at r n (pair_of c))) z in
      let rest = need_is (suc i) cs (λ k l. let y : i + suc k ≡ suc i + k = omega arith in h (suc k) (omega arith) ∙ ap (λ (n : ℕ). field_need (size_of (get_or cs k no_record).code) (field_at r n (pair_of (get_or cs k no_record)))) y) in
      sum_by-cons (wanted true) c cs ∙ ap (λ (n : ℕ). n + sum true cs) first ∙ ap (λ (n : ℕ). field_need (size_of c.code) (field_at r i (pair_of c)) + n) rest

  abbrev pub wide_at : ℕ → ColumnRecord → ℕ
  wide_at k c = widened_to (size_of c.code) (field_at r k (pair_of c)) c.capacity

  pub wide_is : (i : ℕ) (cs ds : List ColumnRecord) → length cs ≡ length ds → ((k : ℕ) → k < length cs → wanted false (get_or cs k no_record) ≡ wide_at (i + k) (get_or ds k no_record)) → sum false cs ≡ wide_sum r i ds
  wide_is i [] [] e h = refl
  wide_is i [] (d ∷ ds) e h = absurd (omega arith)
  wide_is i (c ∷ cs) [] e h = absurd (omega arith)
  wide_is i (c ∷ cs) (d ∷ ds) e h =
      let z : i + 0 ≡ i = omega arith in
      let first : wanted false c ≡ wide_at i d = h 0 (omega arith) ∙ ap (λ (n : ℕ). wide_at n d) z in
      let rest = wide_is (suc i) cs ds (omega arith) (λ k l. let y : i + suc k ≡ suc i + k = omega arith in h (suc k) (omega arith) ∙ ap (λ (n : ℕ). wide_at n (get_or ds k no_record)) y) in
      sum_by-cons (wanted false) c cs ∙ ap (λ (n : ℕ). n + sum false cs) first ∙ ap (λ (n : ℕ). wide_at i d + n) rest

  abbrev pub loses_at : ℕ → Column → Bool
  loses_at k p = loses (size_of p.code) (field_at r k p)

  pub none_lost : (i : ℕ) (ps : List Column) → ((k : ℕ) → k < length ps → loses_at (i + k) (get_or ps k no_pair) ≡ false) → first_loss r i ps ≡ None
  none_lost i [] h = refl
  none_lost i (p ∷ ps) h =
      let z : i + 0 ≡ i = omega arith in
      let first : loses_at i p ≡ false = sym (ap (λ (n : ℕ). loses_at n p) z) ∙ h 0 (omega arith) in
      ap (λ (b : Bool). cond b (Some i) (first_loss r (suc i) ps)) first
      ∙ none_lost (suc i) ps (λ k l. let y : suc i + k ≡ i + suc k = omega arith in ap (λ (n : ℕ). loses_at n (get_or ps k no_pair)) y ∙ h (suc k) (omega arith))

  pub lowest_lost : (i : ℕ) (ps : List Column) (k : ℕ) → k < length ps → ((j : ℕ) → j < k → loses_at (i + j) (get_or ps j no_pair) ≡ false) → loses_at (i + k) (get_or ps k no_pair) ≡ true → first_loss r i ps ≡ Some (i + k)
  lowest_lost i [] k l before here = absurd (omega arith)
  lowest_lost i (p ∷ ps) zero l before here =
      let z : i + 0 ≡ i = omega arith in
      ap (λ (b : Bool). cond b (Some i) (first_loss r (suc i) ps)) (sym (ap (λ (n : ℕ). loses_at n p) z) ∙ here) ∙ ap Some (sym z)
  lowest_lost i (p ∷ ps) (suc k) l before here =
      let z : i + 0 ≡ i = omega arith in
      let y : suc i + k ≡ i + suc k = omega arith in
      ap (λ (b : Bool). cond b (Some i) (first_loss r (suc i) ps)) (sym (ap (λ (n : ℕ). loses_at n p) z) ∙ before 0 (omega arith))
      ∙ lowest_lost (suc i) ps k (omega arith)
      (λ j q. let x : suc i + j ≡ i + suc j = omega arith in ap (λ (n : ℕ). loses_at n (get_or ps j no_pair)) x ∙ before (suc j) (omega arith))
      (ap (λ (n : ℕ). loses_at n (get_or ps k no_pair)) y ∙ here)
      ∙ ap Some y
