-- Room that is made by whatever host: what it takes that the host grants the calls, and what is left where it does not.
use Rattle.std.proofs.Common.{◌≡◌, ℕ, suc, ◌<◌, ◌≤◌, Bool, true, false, cond, ◌&&◌, eqb, List, [], ◌∷◌, map, length, get_or, Some, None, Option, sym, refl, ap, ◌∙◌, subst, arith}
use Rattle.std.proofs.lemmas.Bool.{eqb-true}
use Rattle.mysql.specs.declared.bind.Column.{Column}
use Rattle.mysql.specs.declared.fault.Fault.{Fault}
use Rattle.mysql.specs.Faults.{host_failed}
use Rattle.mysql.specs.Types.{size_of}
use Rattle.host.specs.declared.records.BindRecord.{BindRecord}
use Rattle.host.specs.declared.records.Report.{Report}
use Rattle.host.specs.Fields.{Field, null, held}
use Rattle.host.specs.Meanings.{Row, Meaning}
use Rattle.host.specs.Calls.{with_error, in_order, carried, bind_error, bound_list, after_bind, field_of}
use Rattle.layout.specs.declared.record.ColumnRecord.{ColumnRecord}
use Rattle.layout.specs.declared.table.ColumnTable.{ColumnTable}
use Rattle.layout.specs.Columns.{no_record, bind_of, bytes_by, bytes_of, total, Over, Fits}
use Rattle.layout.specs.Tables.{items, count_of, col, end, binds, SamePlaces, AllFit}
use Rattle.layout.specs.Moves.{Moved, Beyond}
use Rattle.layout.proofs.Binding.{same_bind}
use Rattle.layout.proofs.Fitting.{fits_unless_over}
use Rattle.layout.proofs.Wanting.{new_capacity, new_bytes}
use Rattle.rows.specs.Standing.{pair_of, pairs_of, report_of}
use Rattle.rows.specs.Settling.{PartBound, Tells, PartTold, AllTold, PartDenied, Within, Grants, Enlarged, HostFailed}
use Rattle.rows.proofs.Columned.{same_pairs}
use Rattle.rows.proofs.Pairs.{not_both}
use Rattle.rows.proofs.Asked.{error_alone, error_again}

-- a bind does not hang on the error number

carried_after : (m : Meaning) (e k : ℕ) (bs : List BindRecord) → carried (with_error e m) k bs ≡ carried m k bs
carried_after m e k [] = refl
carried_after m e k (b ∷ bs) = ap (λ (z : Bool). m.carries k b.code && z) (carried_after m e (suc k) bs)

bind_after : (m n : Meaning) (bs : List BindRecord) → n ≡ with_error n.error m → bind_error n bs ≡ bind_error m bs
bind_after m n bs h =
    ap (λ (x : Meaning). bind_error x bs) h
    ∙ ap (λ (z : Bool). cond (eqb (length bs) (length m.columns) && in_order 0 bs) (cond z 0 2036) 2034) (carried_after m n.error 0 bs)

-- one field

within_by : (f : Field) (report : Report) (n : ℕ) → Tells report f → (report.is_null ≡ false → report.length ≤ n) → Within n f
within_by null report n w h = tt
within_by (held lost bs) report n w h = let l = h w.0 in let e = w.1 in omega arith

fits_by : (f : Field) (report : Report) (n : ℕ) → Tells report f → Within n f → report.is_null ≡ false → report.length ≤ n
fits_by null report n w h z = not_both report.is_null w z
fits_by (held lost bs) report n w h z = let e = w.1 in omega arith

-- a column that is bound has one row and one place
same_field : (m : Meaning) (k : ℕ) (x y : PartBound m k) → field_of x.row k x.at ≡ field_of y.row k y.at
same_field m k x y =
    let row : x.row ≡ y.row = (let e : Some x.row ≡ Some y.row = sym x.current ∙ y.current in cc) in
    let at : x.at ≡ y.at = (let e : Some x.at ≡ Some y.at = sym x.bound ∙ y.bound in cc) in
    ap (λ (r : Row). field_of r k x.at) row ∙ ap (field_of y.row k) at

module _ (m : Meaning) (old : ColumnTable) (a : List ℕ) (new : ColumnTable) (b : List ℕ) (moved : Moved old a new b)
    (n : Meaning) (t : ColumnTable) (b' : List ℕ) (places : SamePlaces new t) (host : n ≡ with_error n.error m) (beyond : Beyond (end new) b b') where
  failed : (Grants m old new → ⊥) → (f : Fault) (q : Meaning) → q ≡ with_error q.error m → f ≡ host_failed q.error → HostFailed m old a f q b'
  failed never f q h e = record {
    new = new;
    long = moved.long;
    grown = moved.grown;
    denied = never;
    fault = e;
    host = h;
    beyond = λ p l. beyond p l ∙ moved.beyond p l;
  }

  pub failed_part : (f : Fault) → PartDenied m old f n → HostFailed m old a f n b'
  failed_part f w = failed (λ g. w.denied (g.part w.column w.within w.over)) f n host w.fault

  module _ (told : AllTold m old new t) where
    count_is : count_of t ≡ count_of old
    count_is = places.count ∙ moved.grown.laid.count

    capacity_is : (k : ℕ) → k < count_of old → (col t k).capacity ≡ (col new k).capacity
    capacity_is k l = ap (λ (x : BindRecord). x.capacity) (same_bind new t places k (omega (arith, moved.grown.laid.count)))

    pair_is : (k : ℕ) → k < count_of old → pair_of (col t k) ≡ pair_of (col old k)
    pair_is k l = told.pairs k ∙ ap pair_of (moved.grown.laid.each k l)

    -- where it grants them, all fit
    fits_granted : Grants m old new → AllFit t
    fits_granted g k l = fits_unless_over t k l
        (λ o.
        let w : k < count_of old = omega (arith, count_is) in
        let never : Over (col old k) → ⊥ = λ v.
        let p = told.parts k w v in
        let q = subst (Within (col new k).capacity) (sym (same_field m k p.part (g.part k w v))) (g.fits k w v) in
        omega (arith, o.longer, capacity_is k w, fits_by _ (report_of (col t k)) (col new k).capacity p.tells q o.not_null) in
        let as_new = told.others k never in
        let as_old = as_new ∙ moved.grown.laid.each k w in
        let null = sym (ap (λ (c : ColumnRecord). c.is_null) as_old) ∙ o.not_null in
        omega (
          arith,
          o.longer,
          capacity_is k w,
          new_bytes old new moved.grown k w null,
          ap (λ (z : Option ℕ). bytes_by z (col t k).length) o.variable,
          ap bytes_of as_old,
        ))

    pub failed_fit : (AllFit t → ⊥) → (f : Fault) → f ≡ host_failed n.error → HostFailed m old a f n b'
    failed_fit never f e = failed (λ g. never (fits_granted g)) f n host e

    module _ (q : Meaning) (granted : Bool) (answer : granted ≡ eqb (bind_error n (binds t)) 0) (after : q ≡ after_bind n (binds t)) where
      bind_is : bind_error n (binds t) ≡ bind_error m (binds new)
      bind_is = bind_after m n (binds t) host ∙ ap (bind_error m) places.binds_same

      pub failed_bind : granted ≡ false → (f : Fault) → f ≡ host_failed (bind_error n (binds t)) → HostFailed m old a f q b'
      failed_bind no_bind f e =
          let test : eqb (bind_error n (binds t)) 0 ≡ false = sym answer ∙ no_bind in
          let unbound : q ≡ with_error (bind_error n (binds t)) n = after ∙ ap (λ (z : Bool). record { columns = n.columns; carries = n.carries; coming = n.coming; current = n.current; bound = cond z (Some (binds t)) n.bound; error = bind_error n (binds t) }) test in
          failed (λ g. not_both (eqb (bind_error n (binds t)) 0) (ap (λ (z : ℕ). eqb z 0) (bind_is ∙ g.bind)) test) f q
          (error_again m n q host (error_alone n q _ unbound))
          (e ∙ ap host_failed (sym (ap (λ (x : Meaning). x.error) unbound)))

      pub enlarged : granted ≡ true → AllFit t → Enlarged m old a t q b'
      enlarged bound fit =
          let none : bind_error n (binds t) ≡ 0 = eqb-true (bind_error n (binds t)) 0 (sym answer ∙ bound) in
          record {
            granted = record {
              part = λ k l o. (told.parts k l o).part;
              fits = λ k l o. let w : k < count_of t = omega (arith, count_is) in
                  let variable = ap (λ (p : Column). size_of p.code) (pair_is k l) ∙ o.variable in
                  let p = told.parts k l o in
                  within_by _ (report_of (col t k)) (col t k).capacity p.tells (λ z. omega (arith, fit k w z, ap (λ (s : Option ℕ). bytes_by s (col t k).length) variable));
              bind = bind_is_here none;
            };
            long = moved.long;
            enough = moved.grown.enough;
            count = count_is;
            room = places.room ∙ moved.grown.laid.room;
            pairs = same_pairs t old count_is pair_is;
            tight = moved.grown.tight;
            rule_tight = moved.grown.rule_tight;
            rule_wide = moved.grown.rule_wide;
            capacities = λ k l. capacity_is k l ∙ new_capacity old new moved.grown k l;
            told = λ k l v. ap report_of (told.others k v ∙ moved.grown.laid.each k l);
            beyond = λ p l. let e = places.end_same in beyond p (omega arith) ∙ moved.beyond p (omega arith);
            host =
                after
                ∙ ap (λ (e : ℕ). record { columns = n.columns; carries = n.carries; coming = n.coming; current = n.current; bound = bound_list e (binds t) n.bound; error = e }) none
                ∙ ap (λ (x : Meaning). record { columns = x.columns; carries = x.carries; coming = x.coming; current = x.current; bound = Some (binds t); error = 0 }) host;
          }
        where
          bind_is_here : bind_error n (binds t) ≡ 0 → bind_error m (binds t) ≡ 0
          bind_is_here z = sym (bind_after m n (binds t) host) ∙ z

-- the same of another table that has these columns
pub enlarged_as : (m : Meaning) (old : ColumnTable) (a : List ℕ) (t u : ColumnTable) (q : Meaning) (b : List ℕ) → items u ≡ items t → u.room ≡ t.room → Enlarged m old a t q b → Enlarged m old a u q b
enlarged_as m old a t u q b e f g = record {
  granted = record {
    part = g.granted.part;
    fits = λ k l o. subst (λ cs. Within (get_or cs k no_record).capacity (field_of (g.granted.part k l o).row k (g.granted.part k l o).at)) (sym e) (g.granted.fits k l o);
    bind = ap (λ cs. bind_error m (map bind_of cs)) e ∙ g.granted.bind;
  };
  long = g.long;
  enough = g.enough;
  count = ap length e ∙ g.count;
  room = f ∙ g.room;
  pairs = ap (map pair_of) e ∙ g.pairs;
  tight = g.tight;
  rule_tight = g.rule_tight;
  rule_wide = g.rule_wide;
  capacities = λ k l. ap (λ cs. (get_or cs k no_record).capacity) e ∙ g.capacities k l;
  told = λ k l n. ap (λ cs. report_of (get_or cs k no_record)) e ∙ g.told k l n;
  beyond = subst (λ cs. Beyond (total cs) a b) (sym e) g.beyond;
  host = g.host ∙ ap (λ bs. record { columns = m.columns; carries = m.carries; coming = m.coming; current = m.current; bound = Some bs; error = 0 }) (sym (ap (map bind_of) e));
}
