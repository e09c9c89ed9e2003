-- A row that does not fit its places: new places, and a host that is told of them.
use Rattle.std.proofs.Common.{◌≡◌, ℕ, ◌+◌, ◌<◌, ◌≤◌, Bool, true, false, cond, eqb, ltb, List, map, length, get_or, Some, None, Option, refl, sym, ap, ◌∙◌, subst, arith}
use Rattle.std.proofs.lemmas.Bool.{or_right}
use Rattle.mysql.specs.declared.bind.Column.{Column}
use Rattle.mysql.specs.Types.{size_of}
use Rattle.host.specs.declared.records.BindRecord.{BindRecord}
use Rattle.host.specs.declared.records.Report.{Report}
use Rattle.host.specs.Fields.{Field, null, held}
use Rattle.host.specs.Meanings.{Row, Meaning}
use Rattle.host.specs.Calls.{bind_error, bound_list, after_bind, Reported, Stands}
use Rattle.layout.specs.declared.table.ColumnTable.{ColumnTable}
use Rattle.layout.specs.Columns.{no_record, bind_of, total, kept, Fits}
use Rattle.layout.specs.Tables.{items, count_of, col, start, binds, SamePlaces, NoneLost, AllFit}
use Rattle.layout.specs.Moves.{Moved, Beyond}
use Rattle.layout.proofs.Spans.{kept_le}
use Rattle.layout.proofs.Binding.{same_bind}
use Rattle.layout.proofs.Wanting.{new_capacity, new_bytes}
use Rattle.rows.specs.Bounds.{all_carried}
use Rattle.rows.specs.Standing.{pair_of, pairs_of, report_of, StandsWhole}
use Rattle.rows.specs.Settling.{column_field, NotLost, RowIn, Half, Whole, Enlarged, Grew}
use Rattle.rows.proofs.Columned.{same_pairs, field_known, held_bytes, FieldOf}
use Rattle.rows.proofs.Pairs.{bind_error_is}
use Rattle.rows.proofs.Tried.{enlarged_as}

-- a field of a column that is not marked as lost has lost no figure
clean_by : (f : Field) (size : Option ℕ) (capacity : ℕ) (report : Report) → FieldOf size f → Reported f capacity report → ((n : ℕ) → size ≡ Some n → report.is_truncated ≡ true → ⊥) → NotLost f
clean_by null size capacity report a w not = tt
clean_by (held lost bs) None capacity report a w not = a.0
clean_by (held true bs) (Some n) capacity report a w not = absurd (not n refl (w.2 ∙ or_right (ltb capacity (length bs)) true refl))
clean_by (held false bs) (Some n) capacity report a w not = refl

carried_on : (f : Field) (from to n n' : ℕ) (a b : List ℕ) → n' ≤ n → ((j : ℕ) → j < n' → get_or b (to + j) 0 ≡ get_or a (from + j) 0) → Stands f from n a → Stands f to n' b
carried_on null from to n n' a b l h s = tt
carried_on (held lost bs) from to n n' a b l h s = λ j q. h j (omega arith) ∙ s j (omega arith)

module _ (m : Meaning) (r : Row) (old : ColumnTable) (a : List ℕ) (row : RowIn m r old a) (none : NoneLost old) where
  pub known : (k : ℕ) → k < count_of old → FieldOf (size_of (col old k).code) (column_field r old k)
  known k l = field_known m r old row.current k l

  pub clean : (k : ℕ) → k < count_of old → NotLost (column_field r old k)
  clean k l = clean_by (column_field r old k) (size_of (col old k).code) (col old k).capacity (report_of (col old k)) (known k l) (row.reported k l) (λ n e t. none k l (record { size = n; fixed = e; marked = t }))

  module _ (new : ColumnTable) (b : List ℕ) (moved : Moved old a new b) where
    pub half : Half m r old new b
    half = record {
      current = row.current;
      reported = row.reported;
      clean = clean;
      stands = λ k l. carried_on (column_field r old k) (start old k) (start new k) (col old k).capacity (kept (col old k)) a b (kept_le (col old k)) (moved.carried k l) (row.stands k l);
    }

    module _ (n : Meaning) (t : ColumnTable) (b' : List ℕ) (places : SamePlaces new t) (w : Whole m r old new b n t b') where
      count_is : count_of t ≡ count_of old
      count_is = places.count ∙ moved.grown.laid.count

      capacity_is : (k : ℕ) → k < count_of old → (col t k).capacity ≡ (col new k).capacity
      capacity_is k l = ap (λ (x : BindRecord). x.capacity) (same_bind new t places k (omega (arith, moved.grown.laid.count)))

      fits_by : (k : ℕ) → k < count_of old → (f : Field) → column_field r old k ≡ f → StandsWhole f (col t k) b' → Fits (col t k)
      fits_by k l null e s z = absurd cc
      fits_by k l (held lost bs) e s z =
          let told = subst (λ (f : Field). Reported f (col old k).capacity (report_of (col old k))) e (row.reported k l) in
          let kn = subst (λ (f : Field). FieldOf (size_of (col old k).code) f) e (known k l) in
          omega (arith, s.1, held_bytes (size_of (col old k).code) lost bs (col old k).length kn told.1, new_bytes old new moved.grown k l told.0, capacity_is k l)

      pub all_fit : AllFit t
      all_fit k l = let o : k < count_of old = omega (arith, count_is) in fits_by k o (column_field r old k) refl (w.whole k o)

      pairs_is : pairs_of t ≡ pairs_of old
      pairs_is = same_pairs t old count_is w.pairs

      -- the host grants the bind
      module _ (q : Meaning) (granted : Bool) (answer : granted ≡ eqb (bind_error n (binds t)) 0) (after : q ≡ after_bind n (binds t)) where
        no_error : bind_error n (binds t) ≡ 0
        no_error =
            ap (λ (x : Meaning). bind_error x (binds t)) w.host
            ∙ bind_error_is m t (count_is ∙ row.current.as_many)
            ∙ ap (λ (ps : List Column). cond (all_carried m.carries 0 ps) 0 2036) pairs_is
            ∙ ap (λ (z : Bool). cond z 0 2036) row.current.carried

        pub is_granted : granted ≡ true
        is_granted = answer ∙ ap (λ (e : ℕ). eqb e 0) no_error

        pub grew : Enlarged m old a t q b' → Grew m r old a t q b'
        grew e = record { enlarged = e; reported = w.reported; whole = w.whole }

-- the same of another table that has these columns
pub grew_as : (m : Meaning) (r : Row) (old : ColumnTable) (a : List ℕ) (t u : ColumnTable) (q : Meaning) (b : List ℕ) → items u ≡ items t → u.room ≡ t.room → Grew m r old a t q b → Grew m r old a u q b
grew_as m r old a t u q b e f g = record {
  enlarged = enlarged_as m old a t u q b e f g.enlarged;
  reported = λ k l. subst (λ cs. Reported (column_field r old k) (get_or cs k no_record).capacity (report_of (get_or cs k no_record))) (sym e) (g.reported k l);
  whole = λ k l. subst (λ cs. StandsWhole (column_field r old k) (get_or cs k no_record) b) (sym e) (g.whole k l);
}
