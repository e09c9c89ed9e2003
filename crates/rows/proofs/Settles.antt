-- A row that the host wrote and reported: shown or refused, and what is then in the table.
use Rattle.std.proofs.Common.{◌≡◌, ℕ, ◌+◌, ◌<◌, ◌≤◌, Bool, true, false, cond, ltb, List, length, get_or, Some, None, Ok, Err, Option, sym, refl, ap, ◌∙◌, subst, arith}
use Rattle.std.proofs.lemmas.Bool.{le-leb, lt-leb, le-ltb, lt-ltb}
use Rattle.mysql.specs.declared.bind.Column.{Column}
use Rattle.mysql.specs.declared.fault.Fault.{Fault}
use Rattle.mysql.specs.declared.fault.Refusal.TheVariants.{NumericOverflow, NoRoom}
use Rattle.mysql.specs.Faults.{refused, at_column}
use Rattle.mysql.specs.Types.{size_of}
use Rattle.host.specs.declared.records.BindRecord.{BindRecord}
use Rattle.host.specs.declared.records.Report.{Report}
use Rattle.host.specs.Fields.{Field, null, held}
use Rattle.host.specs.Meanings.{Row, Meaning}
use Rattle.host.specs.Calls.{no_report, Reported, Stands}
use Rattle.layout.specs.declared.record.ColumnRecord.{ColumnRecord}
use Rattle.layout.specs.declared.table.ColumnTable.{ColumnTable}
use Rattle.layout.specs.Columns.{noted, wanted, Fits, Lost, Over}
use Rattle.layout.specs.Tables.{items, count_of, no_pair, col, binds, sum_of, need, Noted, SamePlaces, AllFit, NoneLost, LowestLost}
use Rattle.layout.proofs.Binding.{sized_at}
use Rattle.layout.proofs.Wanting.{fits_need, fits_wide, fits_sum}
use Rattle.rows.specs.declared.answers.Fetch.TheVariants as fetch
use Rattle.rows.specs.Bounds.{all_carried, field_at, field_need, row_need, loses, first_loss}
use Rattle.rows.specs.Dues.{row_fetched}
use Rattle.rows.specs.Standing.{pair_of, pairs_of, report_of, StandsWhole, wide_sum, capacity_after}
use Rattle.rows.specs.Settling.{column_field, Current, RowGot, RowIn, Grew, NotGrown, row_answer, Shows, Refuses}
use Rattle.rows.proofs.Pairs.{pairs_length, pair_at, not_both}
use Rattle.rows.proofs.Columned.{same_pairs, pair_same, FieldOf, field_known, held_bytes}
use Rattle.rows.proofs.Counts.{counted_is, widened_is, loses_is, need_is, wide_is, wide_at, loses_at, none_lost, lowest_lost}

-- a field that fits its place stands there whole
fits_whole : (f : Field) (c : ColumnRecord) (a : List ℕ) → FieldOf (size_of c.code) f → Reported f c.capacity (report_of c) → Fits c → Stands f c.start c.capacity a → StandsWhole f c a
fits_whole null c a k w fit s = w.0
fits_whole (held lost bs) c a k w fit s =
    let told = held_bytes (size_of c.code) lost bs c.length k w.1 in
    let room = fit w.0 in
    (w.0, told, λ j l. s j (omega arith))

module _ (m : Meaning) (r : Row) (t : ColumnTable) (rs : List Report) (a : List ℕ) (got : RowGot m r t rs a) (u : ColumnTable) (written : Noted t rs u) (places : SamePlaces t u) where
  each : (k : ℕ) → k < count_of t → col u k ≡ noted (col t k) (get_or rs k no_report)
  each k l = written.each k l (omega (arith, got.as_many))

  pub pairs_stay : pairs_of u ≡ pairs_of t
  pairs_stay = same_pairs u t written.count (λ k l. ap pair_of (each k l))

  now_current : Current m r u
  now_current = record {
    current = got.current.current;
    places = got.current.places ∙ ap Some (sym places.binds_same);
    no_error = got.current.no_error;
    as_many = written.count ∙ got.current.as_many;
    carried = ap (all_carried m.carries 0) pairs_stay ∙ got.current.carried;
    fits = got.current.fits;
  }

  pub in_row : RowIn m r u a
  in_row = record {
    current = now_current;
    room = written.room ∙ got.room;
    reported = λ k l. let o : k < count_of t = omega (arith, written.count) in
        subst (λ (c : ColumnRecord). Reported (field_at r k (pair_of c)) c.capacity (report_of c)) (sym (each k o)) (got.reported k o);
    stands = λ k l. let o : k < count_of t = omega (arith, written.count) in
        subst (λ (c : ColumnRecord). Stands (field_at r k (pair_of c)) c.start c.capacity a) (sym (each k o)) (got.stands k o);
  }

  reported_in : (k : ℕ) → k < count_of u → Reported (column_field r u k) (col u k).capacity (report_of (col u k))
  reported_in = in_row.reported

  -- a column loses a figure exactly where it is marked
  loses_yes : (k : ℕ) → k < count_of u → Lost (col u k) → loses_at r k (pair_of (col u k)) ≡ true
  loses_yes k l h =
      ap (λ (z : Option ℕ). loses z (column_field r u k)) h.fixed
      ∙ loses_is (column_field r u k) h.size (col u k).capacity (report_of (col u k)) (subst (λ (z : Option ℕ). FieldOf z (column_field r u k)) h.fixed (field_known m r u now_current k l)) (sized_at u k l h.size h.fixed) (reported_in k l)
      ∙ h.marked

  loses_no : (k : ℕ) → k < count_of u → (Lost (col u k) → ⊥) → loses_at r k (pair_of (col u k)) ≡ false
  loses_no k l h = by_size (size_of (col u k).code) refl
    where
      by_mark : (n : ℕ) → size_of (col u k).code ≡ Some n → (b : Bool) → (col u k).is_truncated ≡ b → b ≡ false
      by_mark n e true q = absurd (h (record { size = n; fixed = e; marked = q }))
      by_mark n e false q = refl

      by_size : (size : Option ℕ) → size_of (col u k).code ≡ size → loses size (column_field r u k) ≡ false
      by_size None e = refl
      by_size (Some n) e =
          loses_is (column_field r u k) n (col u k).capacity (report_of (col u k)) (subst (λ (z : Option ℕ). FieldOf z (column_field r u k)) e (field_known m r u now_current k l)) (sized_at u k l n e) (reported_in k l)
          ∙ by_mark n e (col u k).is_truncated refl

  at_pair : (k : ℕ) → k < count_of u → (b : Bool) → loses_at r k (pair_of (col u k)) ≡ b → (i : ℕ) → i ≡ k → loses_at r i (get_or (pairs_of t) k no_pair) ≡ b
  at_pair k l b e i z =
      ap (λ (n : ℕ). loses_at r n (get_or (pairs_of t) k no_pair)) z
      ∙ ap (λ (ps : List Column). loses_at r k (get_or ps k no_pair)) (sym pairs_stay)
      ∙ ap (loses_at r k) (pair_at u k l) ∙ e

  long : length (pairs_of t) ≡ count_of u
  long = pairs_length t ∙ sym written.count

  no_loss : NoneLost u → first_loss r 0 (pairs_of t) ≡ None
  no_loss h = none_lost r 0 (pairs_of t) (λ k l. let o : k < count_of u = omega (arith, long) in at_pair k o false (loses_no k o (h k o)) (0 + k) (omega arith))

  a_loss : (i : ℕ) → LowestLost u i → first_loss r 0 (pairs_of t) ≡ Some i
  a_loss i h =
      let z : 0 + i ≡ i = omega arith in
      lowest_lost r 0 (pairs_of t) i (omega (arith, long, h.within))
      (λ j l. let o : j < count_of u = omega (arith, h.within) in at_pair j o false (loses_no j o (h.lowest j l)) (0 + j) (omega arith))
      (at_pair i h.within true (loses_yes i h.within h.lost) (0 + i) z)
      ∙ ap Some z

  -- the need, and the wide sum

  need_same : need u ≡ row_need r 0 (pairs_of t)
  need_same =
      need_is r 0 (items u) (λ k l.
      let z : 0 + k ≡ k = omega arith in
      counted_is (column_field r u k) (size_of (col u k).code) (col u k).capacity (report_of (col u k)) (reported_in k l)
      ∙ ap (λ (n : ℕ). field_need (size_of (col u k).code) (field_at r n (pair_of (col u k)))) (sym z))
      ∙ ap (row_need r 0) pairs_stay

  wide_one : (k : ℕ) → k < count_of u → wanted false (col u k) ≡ wide_at r k (col t k)
  wide_one k l =
      let o : k < count_of t = omega (arith, written.count) in
      widened_is (column_field r u k) (size_of (col u k).code) (col u k).capacity (report_of (col u k)) (reported_in k l)
      ∙ ap (wide_at r k) (each k o)

  wide_same : sum_of false u ≡ wide_sum r 0 (items t)
  wide_same =
      wide_is r 0 (items u) (items t) written.count (λ k l.
      let z : 0 + k ≡ k = omega arith in
      wide_one k l ∙ ap (λ (n : ℕ). wide_at r n (col t k)) (sym z))

  -- the capacity that the rule gives

  rule_wide : sum_of false u ≤ u.room → (k : ℕ) → k < count_of t → wanted false (col u k) ≡ capacity_after r t k
  rule_wide h k l =
      let o : k < count_of u = omega (arith, written.count) in
      wide_one k o
      ∙ sym (ap (λ (b : Bool). cond b (wide_at r k (col t k)) (field_need (size_of (col t k).code) (column_field r t k))) (le-leb (wide_sum r 0 (items t)) t.room (omega (arith, wide_same, written.room))))

  rule_tight : u.room < sum_of false u → (k : ℕ) → k < count_of t → wanted true (col u k) ≡ capacity_after r t k
  rule_tight h k l =
      let o : k < count_of u = omega (arith, written.count) in
      counted_is (column_field r u k) (size_of (col u k).code) (col u k).capacity (report_of (col u k)) (reported_in k o)
      ∙ ap (λ (c : ColumnRecord). field_need (size_of c.code) (field_at r k (pair_of c))) (each k l)
      ∙ sym (ap (λ (b : Bool). cond b (wide_at r k (col t k)) (field_need (size_of (col t k).code) (column_field r t k))) (lt-leb (wide_sum r 0 (items t)) t.room (omega (arith, wide_same, written.room))))

  rule : (tight : Bool) → (tight ≡ true → u.room < sum_of false u) → (tight ≡ false → sum_of false u ≤ u.room) → (k : ℕ) → k < count_of t → wanted tight (col u k) ≡ capacity_after r t k
  rule true x y = rule_tight (x refl)
  rule false x y = rule_wide (y refl)

  -- answers

  shown_due : NoneLost u → need u ≤ u.room → row_answer r t ≡ Ok fetch.Row
  shown_due h l =
      ap (λ (o : Option ℕ). row_fetched o (ltb t.room (row_need r 0 (pairs_of t)))) (no_loss h)
      ∙ ap (row_fetched None) (le-ltb t.room (row_need r 0 (pairs_of t)) (omega (arith, need_same, written.room)))

  no_room_due : NoneLost u → u.room < need u → row_answer r t ≡ Err (refused NoRoom)
  no_room_due h l =
      ap (λ (o : Option ℕ). row_fetched o (ltb t.room (row_need r 0 (pairs_of t)))) (no_loss h)
      ∙ ap (row_fetched None) (lt-ltb t.room (row_need r 0 (pairs_of t)) (omega (arith, need_same, written.room)))

  lost_due : (i : ℕ) → LowestLost u i → row_answer r t ≡ Err (at_column (refused NumericOverflow) i)
  lost_due i h = ap (λ (o : Option ℕ). row_fetched o (ltb t.room (row_need r 0 (pairs_of t)))) (a_loss i h)

  -- the marks are as they were reported
  marked : (k : ℕ) → k < count_of t → report_of (col u k) ≡ get_or rs k no_report
  marked k l = ap report_of (each k l)

  -- a null is not longer than its place
  null_fits : (k : ℕ) → k < count_of u → column_field r t k ≡ null → Over (col u k) → ⊥
  null_fits k l e over =
      let o : k < count_of t = omega (arith, written.count) in
      let told = subst (λ (f : Field). Reported f (col t k).capacity (report_of (col u k))) e (subst (λ (c : ColumnRecord). Reported (column_field r t k) (col t k).capacity (report_of c)) (sym (each k o)) (got.reported k o)) in
      not_both (col u k).is_null told.0 over.not_null

  refuses : (f : Fault) → row_answer r t ≡ Err f → Refuses m r t rs a f m u a
  refuses f e = record {
    due = e;
    places = places;
    pairs = pairs_stay;
    reported = λ k l. subst (λ (c : ColumnRecord). Reported (column_field r t k) (col t k).capacity (report_of c)) (sym (each k l)) (got.reported k l);
    told = marked;
    host = refl;
    same_arena = refl;
  }

  pub refuses_lost : (i : ℕ) (f : Fault) → LowestLost u i → f ≡ at_column (refused NumericOverflow) i → Refuses m r t rs a f m u a
  refuses_lost i f h e = refuses f (lost_due i h ∙ ap Err (sym e))

  pub refuses_long : NoneLost u → (f : Fault) (m' : Meaning) (a' : List ℕ) → NotGrown m u a f m' a' → Refuses m r t rs a f m' u a'
  refuses_long h f m' a' w =
      subst (λ (x : Meaning). Refuses m r t rs a f x u a') (sym w.host)
      (subst (λ (x : List ℕ). Refuses m r t rs a f m u x) (sym w.same_arena) (refuses f (no_room_due h (w.why (omega (arith, in_row.room))) ∙ ap Err (sym w.fault))))

  pub shows_as_it_is : NoneLost u → AllFit u → Shows m r t rs a m u a
  shows_as_it_is h fit = record {
    due = shown_due h (fits_need u fit);
    table = record {
      count = written.count;
      room = written.room;
      pairs = pairs_stay;
      capacities = λ k l. let o : k < count_of u = omega (arith, written.count) in sym (fits_wide (col u k) (fit k o)) ∙ rule_wide (fits_sum u fit) k l;
      reported = λ k l. let o : k < count_of u = omega (arith, written.count) in
          subst (λ (p : Column). Reported (field_at r k p) (col u k).capacity (report_of (col u k))) (pair_same u t pairs_stay written.count k l) (reported_in k o);
    };
    nulls = λ k l _. marked k l;
    whole = λ k l. let o : k < count_of u = omega (arith, written.count) in
        fits_whole (column_field r u k) (col u k) a (field_known m r u now_current k o) (reported_in k o) (fit k o) (in_row.stands k o);
    outside = λ p _ _. refl;
    host =
        ap (λ (x : Option (List BindRecord)). record { columns = m.columns; carries = m.carries; coming = m.coming; current = m.current; bound = x; error = m.error }) now_current.places
        ∙ ap (λ (e : ℕ). record { columns = m.columns; carries = m.carries; coming = m.coming; current = m.current; bound = Some (binds u); error = e }) now_current.no_error;
  }

  pub shows_grown : NoneLost u → (t' : ColumnTable) (m' : Meaning) (a' : List ℕ) → Grew m r u a t' m' a' → Shows m r t rs a m' t' a'
  shows_grown h t' m' a' w =
      let e = w.enlarged in
      let same : pairs_of t' ≡ pairs_of t = e.pairs ∙ pairs_stay in
      let as_many : count_of t' ≡ count_of t = e.count ∙ written.count in
      record {
        due = shown_due h e.enough;
        table = record {
          count = as_many;
          room = e.room ∙ written.room;
          pairs = same;
          capacities = λ k l. e.capacities k (omega (arith, written.count)) ∙ rule e.tight e.rule_tight e.rule_wide k l;
          reported = λ k l. subst (λ (p : Column). Reported (field_at r k p) (col t' k).capacity (report_of (col t' k))) (pair_same u t pairs_stay written.count k l) (w.reported k (omega (arith, written.count)));
        };
        nulls = λ k l n. let o : k < count_of u = omega (arith, written.count) in e.told k o (null_fits k o n) ∙ marked k l;
        whole = λ k l. let o : k < count_of u = omega (arith, written.count) in
            subst (λ (p : Column). StandsWhole (field_at r k p) (col t' k) a') (sym (pair_same t' u e.pairs e.count k o)) (w.whole k o);
        outside = λ p _ l. e.beyond p l;
        host = e.host;
      }
