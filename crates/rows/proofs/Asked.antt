-- What any host answers where the missing parts of columns are asked for.
use borrow.Rule.Slice.PartMut.{put_mid}
use Rattle.std.proofs.Common.{◌≡◌, ℕ, ◌+◌, ◌-◌, ◌<◌, ◌≤◌, ◌≢◌, List, length, get_or, Some, Option, sym, refl, ap, ◌∙◌, subst, ⊎_elim, arith, below_more}
use Rattle.std.proofs.lemmas.Bool.{cases_eq}
use Rattle.host.specs.declared.records.Report.{Report}
use Rattle.host.specs.Fields.{Field, null, held}
use Rattle.host.specs.Meanings.{Row, Meaning}
use Rattle.host.specs.Calls.{with_error, field_of, record_of, part_error, PartReported, PartCame, PartRefused}
use Rattle.host.proofs.Placed.{put_above}
use Rattle.layout.specs.declared.record.ColumnRecord.{ColumnRecord}
use Rattle.layout.specs.declared.table.ColumnTable.{ColumnTable}
use Rattle.layout.specs.Columns.{Over}
use Rattle.layout.specs.Tables.{count_of, col, end, Grown, SamePlaces, NotedAt}
use Rattle.layout.specs.Moves.{Beyond}
use Rattle.rows.specs.Standing.{pair_of, report_of}
use Rattle.rows.specs.Settling.{PartBound, Tells, PartTold}
use Rattle.rows.proofs.Wholes.{missing_in_place, missing_inside}

-- one part

tells_by : (f : Field) (offset n : ℕ) (report : Report) → PartReported f offset n report → Tells report f
tells_by null offset n report w = w.0
tells_by (held lost bs) offset n report w = (w.0, w.1)

pub part_told : (m m' : Meaning) (column offset : ℕ) (before report : Report) (part part' : List ℕ) → PartCame m m' column offset before report part part' → PartTold m column report
part_told m m' column offset before report part part' w = record {
  part = record { row = w.fields; current = w.current; at = w.at; bound = w.bound };
  tells = tells_by (field_of w.fields column w.at) offset (length part) report w.reported;
}

pub part_denied : (m m' : Meaning) (column : ℕ) (before report : Report) (part part' : List ℕ) → PartRefused m m' column before report part part' → PartBound m column → ⊥
part_denied m m' column before report part part' w b =
    w.error (ap (λ (o : Option Row). part_error o (record_of m column)) b.current ∙ ap (part_error (Some b.row)) b.bound)

-- only the error number changed

pub error_alone : (m m' : Meaning) (e : ℕ) → m' ≡ with_error e m → m' ≡ with_error m'.error m
error_alone m m' e h = h ∙ ap (λ (x : ℕ). with_error x m) (sym (ap (λ (x : Meaning). x.error) h))

pub error_again : (m n m' : Meaning) → n ≡ with_error n.error m → m' ≡ with_error m'.error n → m' ≡ with_error m'.error m
error_again m n m' g h = h ∙ ap (with_error m'.error) g

module _ (m n : Meaning) (column : ℕ) (h : n ≡ with_error n.error m) where
  part_before : (report : Report) → PartTold n column report → PartTold m column report
  part_before report w =
      let b = w.part in
      record {
        part = record { row = b.row; current = sym (ap (λ (x : Meaning). x.current) h) ∙ b.current; at = b.at; bound = sym (ap (λ (x : Meaning). record_of x column) h) ∙ b.bound };
        tells = w.tells;
      }

  pub denied_before : (PartBound n column → ⊥) → PartBound m column → ⊥
  denied_before never b = never (record { row = b.row; current = ap (λ (x : Meaning). x.current) h ∙ b.current; at = b.at; bound = ap (λ (x : Meaning). record_of x column) h ∙ b.bound })

-- what is missing of the columns below i was asked for
pub record AskedTo (i : ℕ) (m : Meaning) (old new : ColumnTable) (a : List ℕ) (n : Meaning) (t : ColumnTable) (b : List ℕ) : Type 0 where
  pub host : n ≡ with_error n.error m
  pub pairs : (k : ℕ) → pair_of (col t k) ≡ pair_of (col new k)
  pub others : (k : ℕ) → (k < i → Over (col old k) → ⊥) → col t k ≡ col new k
  pub parts : (k : ℕ) → k < i → k < count_of old → Over (col old k) → PartTold m k (report_of (col t k))
  pub beyond : Beyond (end new) a b

pub asked_none : (m : Meaning) (old new : ColumnTable) (a : List ℕ) → AskedTo 0 m old new a m new a
asked_none m old new a = record {
  host = refl;
  pairs = λ k. refl;
  others = λ k _. refl;
  parts = λ k l. absurd (omega arith);
  beyond = λ p l. refl;
}

module _ (i : ℕ) (m : Meaning) (old new : ColumnTable) (a : List ℕ) (n : Meaning) (t : ColumnTable) (b : List ℕ) (w : AskedTo i m old new a n t b) where
  pub asked_skip : (Over (col old i) → ⊥) → AskedTo (i + 1) m old new a n t b
  asked_skip not = record {
    host = w.host;
    pairs = w.pairs;
    others = λ k h. w.others k (λ l. h (omega arith));
    parts = below_more (λ k. k < count_of old → Over (col old k) → PartTold m k (report_of (col t k))) i w.parts (λ _ o. absurd (not o));
    beyond = w.beyond;
  }

  -- what is missing of column i was written to its new place: x is the column as it was, and y as it is
  module _ (g : Grown old new) (places : SamePlaces new t) (l : i < count_of old) (x y : ColumnRecord) (is : x ≡ col old i) (to : y ≡ col t i) (over : Over x) (room : old.room ≤ length b)
      (part : List ℕ) (long : length part ≡ y.start + x.length - (y.start + x.capacity)) (b' : List ℕ) (put : b' ≡ put_mid (y.start + x.capacity) (y.start + x.length - (y.start + x.capacity)) b part) where
    pub beyond_part : Beyond (end new) a b'
    beyond_part p h =
        let longer = over.longer in
        let inside = missing_in_place old new t g places i l x y is to over in
        let in_arena = missing_inside old new t g places i l x y is to over in
        let from = y.start + x.capacity in
        ap (λ (z : List ℕ). get_or z p 0) put ∙ put_above from (y.start + x.length - from) b part (omega arith) long p (omega arith) ∙ w.beyond p h

    pub asked_more : (n' : Meaning) → n' ≡ with_error n'.error n → (report : Report) → PartTold n i report → (u : ColumnTable) → NotedAt i t report u → AskedTo (i + 1) m old new a n' u b'
    asked_more n' h report told u noted_in =
        let here = noted_in.here (omega (arith, places.count, g.laid.count)) in
        record {
          host = error_again m n n' w.host h;
          pairs = λ k. ⊎_elim
              (λ (e : k ≡ i). subst (λ (z : ℕ). pair_of (col u z) ≡ pair_of (col new z)) (sym e) (ap pair_of here ∙ w.pairs i))
              (λ (e : k ≢ i). ap pair_of (noted_in.others k e) ∙ w.pairs k)
              (cases_eq k i);
          others = λ k h. ⊎_elim
              (λ (e : k ≡ i). absurd (h (omega arith) (subst (λ (z : ℕ). Over (col old z)) (sym e) (subst Over is over))))
              (λ (e : k ≢ i). noted_in.others k e ∙ w.others k (λ q. h (omega arith)))
              (cases_eq k i);
          parts = below_more (λ k. k < count_of old → Over (col old k) → PartTold m k (report_of (col u k))) i
              (λ k q o v. let e : k ≢ i = omega arith in subst (λ (c : ColumnRecord). PartTold m k (report_of c)) (sym (noted_in.others k e)) (w.parts k q o v))
              (λ _ _. subst (λ (c : ColumnRecord). PartTold m i (report_of c)) (sym here) (part_before m n i w.host report told));
          beyond = beyond_part;
        }
