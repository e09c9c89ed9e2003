-- What a fetch of an opened session meets.
use Rattle.std.proofs.Common.{◌≡◌, ℕ, ◌<◌, Bool, true, false, ltb, List, ◌∷◌, length, get_or, Some, Ok, Err, Option, Result, ◌⊎◌, ⊎_elim, sym, refl, ap, ◌∙◌, subst, arith}
use Rattle.std.proofs.lemmas.Bool.{eq-eqb}
use Rattle.mysql.specs.declared.fault.Fault.{Fault}
use Rattle.mysql.specs.Faults.{host_failed}
use Rattle.host.specs.declared.records.BindRecord.{BindRecord}
use Rattle.host.specs.declared.records.Report.{Report}
use Rattle.rows.specs.declared.spare.Spare.{Spare}
use Rattle.host.specs.declared.records.Fetched.{Fetched}
use Rattle.host.specs.declared.records.Fetched.TheVariants as fetched_as
use Rattle.host.specs.Meanings.{Row, Event, row, failure, Meaning, RowFits, CurrentFits, Formed}
use Rattle.host.specs.Calls.{no_bind, no_report, allows, InPlace, Untouched, Reported, Stands, field_of, NotAllowed, FailureCame, RowCame, Fetches}
use Rattle.layout.specs.declared.table.ColumnTable.{ColumnTable}
use Rattle.layout.specs.Columns.{bind_of}
use Rattle.layout.specs.Tables.{count_of, col, end, binds}
use Rattle.layout.specs.Moves.{Beyond}
use Rattle.layout.proofs.Binding.{binds_length, binds_at, binds_end_by, in_place_inside}
use Rattle.rows.specs.declared.answers.Fetch.{Fetch}
use Rattle.rows.proofs.Pairs.{not_both}
use Rattle.session.specs.declared.state.Session.{Session}
use Rattle.session.specs.declared.state.Opened.{Opened}
use Rattle.rows.specs.Bounds.{all_carried, field_at, row_need, first_loss}
use Rattle.rows.specs.Dues.{row_fetched, fetched}
use Rattle.rows.specs.Standing.{pair_of, pairs_of}
use Rattle.session.specs.Sessions.{table_of, session_of, is_open, is_shown, Sound, passes, fetch_answer, AfterFetch, RowRefused, RowMet}
use Rattle.rows.specs.Settling.{RowGot, row_answer, Shows, Refuses}
use Rattle.session.specs.Settled.{SettledIn}
use Rattle.session.proofs.Shows.{past, is_opened, is_as_long}

-- bytes outside all places lie past their end
pub past_end : (t : ColumnTable) (bs : List BindRecord) (a b : List ℕ) → bs ≡ binds t → Untouched bs a b → Beyond (end t) a b
past_end t bs a b e u p l = u.same_bytes p (λ h. let i = in_place_inside t p (subst (λ (x : List BindRecord). InPlace x p) e h) in absurd (omega arith))

-- where bytes are the same, so is what the row's own fields are
same_places : (xs ys : List BindRecord) (o : Option (List BindRecord)) → o ≡ Some xs → o ≡ Some ys → xs ≡ ys
same_places xs ys o p q = let e : Some xs ≡ Some ys = sym p ∙ q in cc

-- a row came, truncated or not
pub row_came : (x : Fetched) (m m' : Meaning) (rs rs' : List Report) (a a' : List ℕ) → (x ≡ fetched_as.Row) ⊎ (x ≡ fetched_as.Truncated) → Fetches x m m' rs rs' a a' → (truncated : Bool) × RowCame truncated m m' rs rs' a a'
row_came fetched_as.Row m m' rs rs' a a' e w = (false, w)
row_came fetched_as.Truncated m m' rs rs' a a' e w = (true, w)
row_came fetched_as.NoData m m' rs rs' a a' e w = ⊎_elim (λ (e : fetched_as.NoData ≡ fetched_as.Row). cc) (λ (e : fetched_as.NoData ≡ fetched_as.Truncated). cc) e
row_came fetched_as.Failed m m' rs rs' a a' e w = ⊎_elim (λ (e : fetched_as.Failed ≡ fetched_as.Row). cc) (λ (e : fetched_as.Failed ≡ fetched_as.Truncated). cc) e

row_current : (m : Meaning) (r : Row) → CurrentFits m m.current → m.current ≡ Some r → RowFits m r
row_current m r h e = subst (CurrentFits m) e h

module _ {H : Type 0} (m : Meaning) (s : Session H) (sound : Sound m s) (a : List ℕ) (p : passes s a ≡ true) where
  abbrev t : ColumnTable
  t = table_of s

  opened : is_open s ≡ true
  opened = is_opened s a p

  long : length a ≡ t.room
  long = is_as_long s a p

  -- the host allows the fetch
  pub allowed : (n : ℕ) → n ≡ count_of t → allows m (length a) n ≡ true
  allowed n e =
      rw (sound.places opened, binds_end_by t (length a) (omega (arith, long)), eq-eqb n (length m.columns) (e ∙ sound.as_many opened)) refl

  answers : (coming : List Event) (x : Result Fetch Fault) → fetched (pairs_of t) (length a) coming ≡ x → m.coming ≡ coming → x ≡ fetch_answer s a m.coming
  answers coming x d e =
      sym (ap (fetch_answer s a) e ∙ past s a p (fetched (pairs_of t) (length a) coming) ∙ d)

  -- a fetch that is allowed and failed met a failure
  pub failure_came : (m' : Meaning) (rs rs' : List Report) (a' : List ℕ) → length rs ≡ count_of t → NotAllowed m m' rs rs' a a' ⊎ FailureCame m m' rs rs' a a' → FailureCame m m' rs rs' a a'
  failure_came m' rs rs' a' e w = ⊎_elim (λ n. not_both (allows m (length a) (length rs)) (allowed (length rs) e) n.refused) (λ f. f) w

  -- a failure
  module _ (m' : Meaning) (rs rs' : List Report) (a' : List ℕ) (w : FailureCame m m' rs rs' a a') where
    pub failure_answer : (f : Fault) (error : ℕ) → f ≡ host_failed error → error ≡ m'.error → Err f ≡ fetch_answer s a m.coming
    failure_answer f error e q =
        answers (failure w.number ∷ w.rest) (Err f) (ap (λ (n : ℕ). Err (host_failed n)) (sym (q ∙ ap (λ (x : Meaning). x.error) w.after)) ∙ ap Err (sym e)) w.next

    pub failure_after : (s' : Session H) (x : Result Fetch Fault) → is_open s' ≡ true → is_shown s' ≡ false → (table_of s') ≡ t → AfterFetch m.coming x m m' s s' a a'
    failure_after s' x o n e =
        subst (λ (es : List Event). AfterFetch es x m m' s s' a a') (sym w.next)
        (record {
          host = w.after;
          opened = o;
          no_row = n;
          table = e;
          outside = past_end t w.places a a' (same_places w.places (binds t) m.bound w.bound (sound.places opened)) w.untouched;
        })

  -- a row
  module _ (truncated : Bool) (m' : Meaning) (rs rs' : List Report) (a' : List ℕ) (w : RowCame truncated m m' rs rs' a a') (formed : Formed m') (reports : length rs ≡ count_of t) (same_length : length a' ≡ length a) where
    places_are : w.places ≡ binds t
    places_are = same_places w.places (binds t) m.bound w.bound (sound.places opened)

    record_is : (k : ℕ) → k < count_of t → get_or w.places k no_bind ≡ bind_of (col t k)
    record_is k l = ap (λ (bs : List BindRecord). get_or bs k no_bind) places_are ∙ binds_at t k l

    as_long : (k : ℕ) → k < count_of t → k < length w.places
    as_long k l = let e = ap length places_are in omega (arith, binds_length t)

    pub row_got : RowGot m' w.fields t rs' a'
    row_got = record {
      current = record {
        current = ap (λ (x : Meaning). x.current) w.after;
        places = ap (λ (x : Meaning). x.bound) w.after ∙ sound.places opened;
        no_error = ap (λ (x : Meaning). x.error) w.after;
        as_many = sound.as_many opened ∙ ap (λ (x : Meaning). length x.columns) (sym w.after);
        carried = ap (λ (x : Meaning). all_carried x.carries 0 (pairs_of t)) w.after ∙ sound.carried opened;
        fits = row_current m' w.fields formed.current_fit (ap (λ (x : Meaning). x.current) w.after);
      };
      room = sym long ∙ sym same_length;
      as_many = w.as_many_reports ∙ reports;
      reported = λ k l. subst (λ (b : BindRecord). Reported (field_of w.fields k b) b.capacity (get_or rs' k no_report)) (record_is k l) (w.reported k (as_long k l));
      stands = λ k l. subst (λ (b : BindRecord). Stands (field_of w.fields k b) b.start b.capacity a') (record_is k l) (w.stands k (as_long k l));
    }

    due_is : (x : Result Fetch Fault) → row_answer w.fields t ≡ x → fetched (pairs_of t) (length a) (row w.fields ∷ w.rest) ≡ x
    due_is x e = ap (λ (n : ℕ). row_fetched (first_loss w.fields 0 (pairs_of t)) (ltb n (row_need w.fields 0 (pairs_of t)))) long ∙ e

    module _ (u : ColumnTable) (o : Opened) (h : H) (rs'' : List Report) (sp'' : Spare) (m'' : Meaning) (a'' : List ℕ) (e1 : u ≡ t) (kept : (k : ℕ) → k < count_of t → get_or rs'' k no_report ≡ get_or rs' k no_report) where
      abbrev s' : Session H
      s' = session_of h o rs'' sp''

      pub row_answered : (x : Result Fetch Fault) → SettledIn m' w.fields u rs' a' x m'' o a'' → x ≡ fetch_answer s a m.coming
      row_answered (Ok x) z = answers (row w.fields ∷ w.rest) (Ok x) (due_is (Ok x) (ap (row_answer w.fields) (sym e1) ∙ z.1.settled.due ∙ ap Ok (sym z.0))) w.next
      row_answered (Err f) z = answers (row w.fields ∷ w.rest) (Err f) (due_is (Err f) (ap (row_answer w.fields) (sym e1) ∙ z.settled.due)) w.next

      outside_first : Beyond (end t) a a'
      outside_first = past_end t w.places a a' places_are w.untouched

      met : (x : Fetch) → SettledIn m' w.fields u rs' a' (Ok x) m'' o a'' → RowMet w.fields w.rest m m'' s s' a a''
      met x z =
          let y = subst (λ (v : ColumnTable). Shows m' w.fields v rs' a' m'' (table_of s') a'') e1 z.1.settled in
          record {
            host = y.host ∙ ap (λ (q : Meaning). record { columns = q.columns; carries = q.carries; coming = q.coming; current = q.current; bound = Some (binds (table_of s')); error = 0 }) w.after;
            opened = refl;
            shown = z.1.shown;
            table = y.table;
            nulls = λ k l e. y.nulls k l e ∙ sym (kept k l);
            whole = y.whole;
            outside = λ p l l'. y.outside p l l' ∙ outside_first p l;
          }

      not_met : (f : Fault) → SettledIn m' w.fields u rs' a' (Err f) m'' o a'' → RowRefused w.fields w.rest m m'' s s' a a''
      not_met f z =
          let y = subst (λ (v : ColumnTable). Refuses m' w.fields v rs' a' f m'' (table_of s') a'') e1 z.settled in
          record {
            host = y.host ∙ w.after;
            opened = refl;
            no_row = z.no_row;
            places = y.places;
            pairs = y.pairs;
            reported = y.reported;
            told = λ k l. y.told k l ∙ sym (kept k l);
            stands = λ k l. subst (λ (b : List ℕ). Stands (field_at w.fields k (pair_of (col t k))) (col t k).start (col t k).capacity b) (sym y.same_arena) (row_got.stands k l);
            outside = λ p l. ap (λ (b : List ℕ). get_or b p 0) y.same_arena ∙ outside_first p l;
          }

      pub row_after : (x : Result Fetch Fault) → SettledIn m' w.fields u rs' a' x m'' o a'' → AfterFetch m.coming x m m'' s s' a a''
      row_after (Ok x) z = subst (λ (es : List Event). AfterFetch es (Ok x) m m'' s s' a a'') (sym w.next) (met x z)
      row_after (Err f) z = subst (λ (es : List Event). AfterFetch es (Err f) m m'' s s' a a'') (sym w.next) (not_met f z)
