-- The missing parts of a row, fetched column by column, until all of it stands in the new places.
use borrow.Rule.Slice.PartMut.{put_mid}
use Rattle.std.proofs.Common.{◌≡◌, ℕ, ◌+◌, ◌-◌, ◌<◌, ◌≤◌, min, Bool, false, ◌≢◌, List, length, get_or, drop, None, Option, sym, refl, ap, ◌∙◌, subst, ⊎_elim, arith, below_more}
use Rattle.std.proofs.lemmas.List.{get_or-drop, length-drop}
use Rattle.std.proofs.lemmas.Bool.{cases_eq, cases_lt}
use Rattle.mysql.specs.declared.bind.Column.{Column}
use Rattle.mysql.specs.Types.{size_of}
use Rattle.host.specs.declared.records.BindRecord.{BindRecord}
use Rattle.host.specs.declared.records.Report.{Report}
use Rattle.host.specs.Fields.{Field, null, held}
use Rattle.host.specs.Meanings.{Row, Meaning}
use Rattle.host.specs.Calls.{with_error, from_offset, Reported, PartReported, Stands}
use Rattle.layout.specs.declared.record.ColumnRecord.{ColumnRecord}
use Rattle.layout.specs.declared.table.ColumnTable.{ColumnTable}
use Rattle.layout.specs.Columns.{bytes_by, bytes_of, kept, kept_if, noted, moved, wanted, Over, Fits}
use Rattle.layout.specs.Tables.{count_of, col, start, end, Grown, SamePlaces, NotedAt}
use Rattle.layout.specs.Moves.{Beyond}
use Rattle.layout.proofs.Spans.{apart, inside}
use Rattle.layout.proofs.Binding.{same_bind}
use Rattle.layout.proofs.Wanting.{new_over, new_bytes}
use Rattle.rows.specs.Standing.{pair_of, report_of, StandsWhole}
use Rattle.rows.specs.Settling.{column_field, NotLost, PartGot, Half}
use Rattle.host.proofs.Placed.{put_below, put_above}
use Rattle.rows.proofs.Parts.{part_placed}
use Rattle.rows.proofs.Columned.{field_known, held_bytes, not_truncated, FieldOf, reported_at}

-- the columns below i stand whole, the others have their kept bytes in place
pub record WholeTo (i : ℕ) (m : Meaning) (r : Row) (old new : ColumnTable) (a : List ℕ) (n : Meaning) (t : ColumnTable) (b : List ℕ) : Type 0 where
  pub host : n ≡ m
  pub pairs : (k : ℕ) → k < count_of old → pair_of (col t k) ≡ pair_of (col old k)
  pub reported : (k : ℕ) → k < i → k < count_of old → Reported (column_field r old k) (col t k).capacity (report_of (col t k))
  pub whole : (k : ℕ) → k < i → k < count_of old → StandsWhole (column_field r old k) (col t k) b
  pub same : (k : ℕ) → i ≤ k → k < count_of old → col t k ≡ col new k
  pub told : (k : ℕ) → k < count_of old → (Over (col old k) → ⊥) → report_of (col t k) ≡ report_of (col old k)
  pub stands : (k : ℕ) → i ≤ k → k < count_of old → Stands (column_field r old k) (start new k) (kept (col old k)) b
  pub beyond : Beyond (end new) a b

-- one column, whose field is known

-- a field that fitted its old place stands whole in its new one
skipped : (f : Field) (size : Option ℕ) (c : ColumnRecord) (at n : ℕ) (b : List ℕ) → size_of c.code ≡ size → FieldOf size f → Reported f c.capacity (report_of c) → Fits c → Stands f at (kept c) b → StandsWhole f (moved c at n) b
skipped null size c at n b e a w fit s = w.0
skipped (held lost bs) size c at n b e a w fit s =
    let told : bytes_of c ≡ length bs = ap (λ (z : Option ℕ). bytes_by z c.length) e ∙ held_bytes size lost bs c.length a w.1 in
    let all : kept c ≡ min c.capacity (bytes_of c) = ap (λ (z : Bool). kept_if z c.capacity (bytes_of c)) w.0 in
    let room = fit w.0 in
    (w.0, told, λ j l. s j (omega arith))

-- a field that did not, once its missing part came
module _ (f : Field) (c : ColumnRecord) (report : Report) (at : ℕ) (b b' : List ℕ) (over : Over c) (known : FieldOf None f) (clean : NotLost f) (told : Reported f c.capacity (report_of c)) where
  from_part : PartReported f c.capacity (at + c.length - (at + c.capacity)) report → Reported f c.length report
  from_part = go f known clean told
    where
      go : (f : Field) → FieldOf None f → NotLost f → Reported f c.capacity (report_of c) → PartReported f c.capacity (at + c.length - (at + c.capacity)) report → Reported f c.length report
      go null known clean told w = w
      go (held lost bs) known clean told w =
          let d = length-drop c.capacity bs in
          let n = told.1 in
          (w.0, w.1, w.2 ∙ not_truncated lost (drop c.capacity bs) (at + c.length - (at + c.capacity)) clean (omega arith) ∙ sym (not_truncated lost bs c.length clean (omega arith)))

  part_whole : (d : ColumnRecord) → d.code ≡ c.code → d.start ≡ at → d.is_null ≡ report.is_null → d.length ≡ report.length
      → PartReported f c.capacity (at + c.length - (at + c.capacity)) report
      → Stands f at (kept c) b → ((p : ℕ) → p < at + c.capacity → get_or b' p 0 ≡ get_or b p 0)
      → Stands (from_offset c.capacity f) (at + c.capacity) (at + c.length - (at + c.capacity)) b'
      → StandsWhole f d b'
  part_whole = go f known clean told
    where
      go : (f : Field) → FieldOf None f → NotLost f → Reported f c.capacity (report_of c) → (d : ColumnRecord) → d.code ≡ c.code → d.start ≡ at → d.is_null ≡ report.is_null → d.length ≡ report.length
          → PartReported f c.capacity (at + c.length - (at + c.capacity)) report
          → Stands f at (kept c) b → ((p : ℕ) → p < at + c.capacity → get_or b' p 0 ≡ get_or b p 0)
          → Stands (from_offset c.capacity f) (at + c.capacity) (at + c.length - (at + c.capacity)) b'
          → StandsWhole f d b'
      go null known clean told d code st nl len w s before p = nl ∙ w.0
      go (held lost bs) known clean told d code st nl len w s before p =
          let v : size_of d.code ≡ None = ap size_of code ∙ over.variable in
          let vc = over.variable in
          let longer = over.longer in
          let n = told.1 in
          let bytes : bytes_of c ≡ c.length = ap (λ (z : Option ℕ). bytes_by z c.length) vc in
          let all : kept c ≡ min c.capacity (bytes_of c) = ap (λ (z : Bool). kept_if z c.capacity (bytes_of c)) over.not_null in (
            nl ∙ w.0,
            ap (λ (z : Option ℕ). bytes_by z d.length) v ∙ len ∙ w.1,
            λ j l. ⊎_elim
                (λ (h : j < c.capacity). ap (λ (z : ℕ). get_or b' (z + j) 0) st ∙ before (at + j) (omega arith) ∙ s j (omega arith))
                (λ (h : c.capacity ≤ j).
                let i = j - c.capacity in
                let e : d.start + j ≡ at + c.capacity + i = omega (arith, st) in
                let e' : c.capacity + i ≡ j = omega arith in
                let dl = length-drop c.capacity bs in
                ap (λ (z : ℕ). get_or b' z 0) e ∙ p i (omega arith) ∙ get_or-drop c.capacity bs i 0 ∙ ap (λ (z : ℕ). get_or bs z 0) e')
                (cases_lt j c.capacity),
          )

-- one column more

still_whole : (f : Field) (c : ColumnRecord) (b b' : List ℕ) → ((j : ℕ) → c.is_null ≡ false → j < bytes_of c → get_or b' (c.start + j) 0 ≡ get_or b (c.start + j) 0) → StandsWhole f c b → StandsWhole f c b'
still_whole null c b b' h w = w
still_whole (held lost bs) c b b' h w = let n = w.1 in (w.0, w.1, λ j l. h j w.0 (omega arith) ∙ w.2 j l)

still_stands : (f : Field) (at n : ℕ) (b b' : List ℕ) → ((j : ℕ) → j < n → get_or b' (at + j) 0 ≡ get_or b (at + j) 0) → Stands f at n b → Stands f at n b'
still_stands null at n b b' h s = tt
still_stands (held lost bs) at n b b' h s = λ j l. h j (omega arith) ∙ s j l

same_bytes : (c d : ColumnRecord) → pair_of c ≡ pair_of d → c.length ≡ d.length → bytes_of c ≡ bytes_of d
same_bytes c d e n = ap (λ (p : Column). bytes_by (size_of p.code) c.length) e ∙ ap (bytes_by (size_of d.code)) n

module _ (old new : ColumnTable) (g : Grown old new) (m : Meaning) (r : Row) (a : List ℕ) (half : Half m r old new a) where
  new_pair : (k : ℕ) → k < count_of old → pair_of (col new k) ≡ pair_of (col old k)
  new_pair k l = ap pair_of (g.laid.each k l)

  pub whole_none : WholeTo 0 m r old new a m new a
  whole_none = record {
    host = refl;
    pairs = new_pair;
    reported = λ k l. absurd (omega arith);
    whole = λ k l. absurd (omega arith);
    same = λ k l n. refl;
    told = λ k l n. ap report_of (g.laid.each k l);
    stands = λ k l n. half.stands k n;
    beyond = λ p l. refl;
  }

  known : (k : ℕ) → k < count_of old → FieldOf (size_of (col old k).code) (column_field r old k)
  known k l = field_known m r old half.current k l

  module _ (i : ℕ) (l : i < count_of old) (n : Meaning) (t : ColumnTable) (b : List ℕ) (w : WholeTo i m r old new a n t b) where
    -- a column that fits its old place is whole already
    pub whole_skip : Fits (col old i) → WholeTo (i + 1) m r old new a n t b
    whole_skip fit =
        let c = col old i in
        let is : col t i ≡ moved c (start new i) (wanted g.tight c) = w.same i (omega arith) l ∙ g.laid.each i l in
        let f = column_field r old i in
        let new_room : c.is_null ≡ false → bytes_of c ≤ wanted g.tight c = λ e. omega (arith, new_bytes old new g i l e, ap (λ (z : ColumnRecord). z.capacity) (g.laid.each i l)) in
        record {
          host = w.host;
          pairs = w.pairs;
          reported = below_more (λ k. k < count_of old → Reported (column_field r old k) (col t k).capacity (report_of (col t k))) i w.reported
              (λ _. subst (λ (d : ColumnRecord). Reported f d.capacity (report_of d)) (sym is)
              (reported_at f (size_of c.code) c.capacity (wanted g.tight c) (report_of c) (known i l) (half.clean i l) fit new_room (half.reported i l)));
          whole = below_more (λ k. k < count_of old → StandsWhole (column_field r old k) (col t k) b) i w.whole
              (λ _. subst (λ (d : ColumnRecord). StandsWhole f d b) (sym is)
              (skipped f (size_of c.code) c (start new i) (wanted g.tight c) b refl (known i l) (half.reported i l) fit (w.stands i (omega arith) l)));
          same = λ k h. w.same k (omega arith);
          told = w.told;
          stands = λ k h. w.stands k (omega arith);
          beyond = w.beyond;
        }

    -- a column that did not is whole once its missing part came
    module _ (n' : Meaning) (u : ColumnTable) (b' : List ℕ) (report : Report) (over : Over (col old i)) (places : SamePlaces new t)
        (before : (p : ℕ) → p < start new i + (col old i).capacity → get_or b' p 0 ≡ get_or b p 0)
        (after : (p : ℕ) → start new i + (col old i).length ≤ p → get_or b' p 0 ≡ get_or b p 0)
        (got : PartGot n (column_field r old i) (col old i).capacity report n' (start new i + (col old i).capacity) (start new i + (col old i).length) b')
        (noted_in : NotedAt i t report u) where
      inside_new : (k : ℕ) → k < count_of old → start new k + (col new k).capacity ≤ end new
      inside_new k o = inside new k (omega (arith, g.laid.count))

      here : col u i ≡ noted (col t i) report
      here = noted_in.here (omega (arith, places.count, g.laid.count))

      was : col t i ≡ moved (col old i) (start new i) (wanted g.tight (col old i))
      was = w.same i (omega arith) l ∙ g.laid.each i l

      is_now : col u i ≡ noted (moved (col old i) (start new i) (wanted g.tight (col old i))) report
      is_now = here ∙ ap (λ (z : ColumnRecord). noted z report) was

      grows : (col new i).capacity ≡ (col old i).length
      grows = new_over old new g i l over

      text_known : FieldOf None (column_field r old i)
      text_known = subst (λ (z : Option ℕ). FieldOf z (column_field r old i)) over.variable (known i l)

      -- a column before i keeps what it has
      earlier : (k : ℕ) → k < i → (j : ℕ) → (col t k).is_null ≡ false → j < bytes_of (col t k) → get_or b' ((col t k).start + j) 0 ≡ get_or b ((col t k).start + j) 0
      earlier k h j z q =
          let o : k < count_of old = omega arith in
          let st : (col t k).start ≡ start new k = ap (λ (x : BindRecord). x.start) (same_bind new t places k (omega (arith, g.laid.count))) in
          let cp : (col t k).capacity ≡ (col new k).capacity = ap (λ (x : BindRecord). x.capacity) (same_bind new t places k (omega (arith, g.laid.count))) in
          let fits = whole_fits k o (column_field r old k) refl (w.whole k h o) z in
          before ((col t k).start + j) (omega (arith, apart new k i h (omega (arith, g.laid.count)), st))
        where
          whole_fits : (k : ℕ) → k < count_of old → (f : Field) → column_field r old k ≡ f → StandsWhole f (col t k) b → (col t k).is_null ≡ false → bytes_of (col t k) ≤ (col new k).capacity
          whole_fits k o null e s z = absurd cc
          whole_fits k o (held lost bs) e s z =
              let told = subst (λ (f : Field). Reported f (col old k).capacity (report_of (col old k))) e (half.reported k o) in
              let kn = subst (λ (f : Field). FieldOf (size_of (col old k).code) f) e (known k o) in
              omega (arith, s.1, held_bytes (size_of (col old k).code) lost bs (col old k).length kn told.1, new_bytes old new g k o told.0)

      pub whole_more : WholeTo (i + 1) m r old new a n' u b'
      whole_more =
          let f = column_field r old i in
          let c = col old i in
          let longer = over.longer in
          let gr = grows in
          let cap : (col u i).capacity ≡ c.length = ap (λ (z : ColumnRecord). z.capacity) is_now ∙ sym (ap (λ (z : ColumnRecord). z.capacity) (g.laid.each i l)) ∙ gr in
          let other : (k : ℕ) → k ≢ i → col u k ≡ col t k = noted_in.others in
          let error : n.error ≡ 0 = ap (λ (x : Meaning). x.error) w.host ∙ half.current.no_error in
          let same_host : n' ≡ n = got.host ∙ ap (λ (e : ℕ). with_error e n) (sym error) in
          record {
            host = same_host ∙ w.host;
            pairs = λ k o. ⊎_elim
                (λ (e : k ≡ i). subst (λ (x : ℕ). pair_of (col u x) ≡ pair_of (col old x)) (sym e) (ap pair_of is_now))
                (λ (e : k ≢ i). ap pair_of (other k e) ∙ w.pairs k o)
                (cases_eq k i);
            reported = below_more (λ k. k < count_of old → Reported (column_field r old k) (col u k).capacity (report_of (col u k))) i
                (λ k h o. subst (λ (d : ColumnRecord). Reported (column_field r old k) d.capacity (report_of d)) (sym (other k (omega arith))) (w.reported k h o))
                (λ _. subst (λ (z : ℕ). Reported f z (report_of (col u i))) (sym cap)
                (subst (λ (d : ColumnRecord). Reported f c.length (report_of d)) (sym is_now)
                (from_part f c report (start new i) b b' over text_known (half.clean i l) (half.reported i l) got.reported)));
            whole = below_more (λ k. k < count_of old → StandsWhole (column_field r old k) (col u k) b') i
                (λ k h o. subst (λ (d : ColumnRecord). StandsWhole (column_field r old k) d b') (sym (other k (omega arith))) (still_whole (column_field r old k) (col t k) b b' (earlier k h) (w.whole k h o)))
                (λ _. part_whole f c report (start new i) b b' over text_known (half.clean i l) (half.reported i l) (col u i)
                (ap (λ (z : ColumnRecord). z.code) is_now) (ap (λ (z : ColumnRecord). z.start) is_now) (ap (λ (z : ColumnRecord). z.is_null) is_now) (ap (λ (z : ColumnRecord). z.length) is_now)
                got.reported (w.stands i (omega arith) l) before got.stands);
            same = λ k h o. other k (omega arith) ∙ w.same k (omega arith) o;
            told = λ k o n. ⊎_elim
                (λ (e : k ≡ i). absurd (n (subst (λ (x : ℕ). Over (col old x)) (sym e) over)))
                (λ (e : k ≢ i). ap report_of (other k e) ∙ w.told k o n)
                (cases_eq k i);
            stands = λ k h o. still_stands (column_field r old k) (start new k) (kept (col old k)) b b'
                (λ j q. after (start new k + j) (omega (arith, apart new i k (omega arith) (omega (arith, g.laid.count)))))
                (w.stands k (omega arith) o);
            beyond = λ p h. after p (omega (arith, inside_new i l)) ∙ w.beyond p h;
          }

-- where the places stay, so does a column's start
pub same_start : (new t : ColumnTable) → SamePlaces new t → (i : ℕ) → i < count_of new → start t i ≡ start new i
same_start new t p i l = ap (λ (x : BindRecord). x.start) (same_bind new t p i l)

-- what is missing of a text has room in its new place, and so in the arena: x is the column as it was, and y as it is
module _ (old new t : ColumnTable) (g : Grown old new) (p : SamePlaces new t) (i : ℕ) (l : i < count_of old) (x y : ColumnRecord) (is : x ≡ col old i) (to : y ≡ col t i) (o : Over x) where
  pub missing_in_place : y.start + x.length ≤ end new
  missing_in_place =
      let m : i < count_of new = omega (arith, g.laid.count) in
      omega (arith, ap (λ (z : ColumnRecord). z.start) to, same_start new t p i m, inside new i m, new_over old new g i l (subst Over is o), ap (λ (z : ColumnRecord). z.length) is)

  pub missing_inside : y.start + x.length ≤ old.room
  missing_inside = let w = new.within in omega (arith, missing_in_place, g.laid.room)

-- one column more, whose missing part was fetched to its place in the arena
module _ (old new : ColumnTable) (g : Grown old new) (m : Meaning) (r : Row) (a : List ℕ) (half : Half m r old new a)
    (i : ℕ) (l : i < count_of old) (n : Meaning) (t : ColumnTable) (b : List ℕ) (w : WholeTo i m r old new a n t b) (places : SamePlaces new t)
    (x y : ColumnRecord) (is : x ≡ col old i) (to : y ≡ col t i) (over : Over x) (room : old.room ≤ length b)
    (n' : Meaning) (u : ColumnTable) (b' : List ℕ) (report : Report) (part : List ℕ) where
  pub whole_fetched : length part ≡ y.start + x.length - (y.start + x.capacity)
      → b' ≡ put_mid (y.start + x.capacity) (y.start + x.length - (y.start + x.capacity)) b part
      → PartGot n (column_field r old i) x.capacity report n' 0 (length part) part
      → NotedAt i t report u → WholeTo (i + 1) m r old new a n' u b'
  whole_fetched long put got noted_in =
      let from = y.start + x.capacity in
      let to_end = y.start + x.length in
      let longer = over.longer in
      let inside = missing_inside old new t g places i l x y is to over in
      let st : y.start ≡ start new i = ap (λ (z : ColumnRecord). z.start) to ∙ same_start new t places i (omega (arith, g.laid.count)) in
      let cap = ap (λ (z : ColumnRecord). z.capacity) is in
      let len = ap (λ (z : ColumnRecord). z.length) is in
      let below = put_below from (to_end - from) b part (omega arith) long in
      let above = put_above from (to_end - from) b part (omega arith) long in
      let placed = subst (λ (z : List ℕ). PartGot n (column_field r old i) x.capacity report n' from to_end z) (sym put)
      (part_placed n n' (column_field r old i) x.capacity report from to_end b part (omega arith) (omega arith) long got) in
      let moved_to = subst (λ (s : ℕ). PartGot n (column_field r old i) x.capacity report n' (s + x.capacity) (s + x.length) b') st placed in
      let at_old = subst (λ (d : ColumnRecord). PartGot n (column_field r old i) d.capacity report n' (start new i + d.capacity) (start new i + d.length) b') is moved_to in
      whole_more old new g m r a half i l n t b w n' u b' report (subst Over is over) places
      (λ p h. ap (λ (z : List ℕ). get_or z p 0) put ∙ below p (omega (arith, st, cap)))
      (λ p h. ap (λ (z : List ℕ). get_or z p 0) put ∙ above p (omega (arith, st, len)))
      at_old noted_in
