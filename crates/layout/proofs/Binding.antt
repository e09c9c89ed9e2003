-- What the host is told of a table's columns: their places, in order, and inside the arena.
use Rattle.std.proofs.Common.{◌≡◌, ℕ, suc, ◌+◌, ◌<◌, ◌≤◌, true, leb, List, [], ◌∷◌, map, length, get_or, take, Some, Option, sym, refl, ap, ◌∙◌, subst, arith}
use Rattle.std.proofs.lemmas.List.{length-map, get_or-map, take-map}
use Rattle.std.proofs.lemmas.List.Sums.{sum_by-cons}
use Rattle.std.proofs.lemmas.Bool.{le-leb, and_from}
use Rattle.std.specs.List.{sum_by}
use Rattle.mysql.specs.Types.{size_of}
use Rattle.host.specs.declared.records.BindRecord.{BindRecord}
use Rattle.host.specs.Calls.{in_order, all_end_by, InPlace}
use Rattle.host.specs.Calls.{no_bind}
use Rattle.layout.specs.declared.record.ColumnRecord.{ColumnRecord}
use Rattle.layout.specs.declared.table.ColumnTable.{ColumnTable}
use Rattle.layout.specs.Columns.{no_record, bind_of, bytes_by, span, total, Lies, SomeRoom, Sized}
use Rattle.layout.specs.Tables.{items, count_of, col, end, binds, SamePlaces}
use Rattle.layout.proofs.Spans.{inside, capacity}

-- places that follow one another are in order
in_order_from : (at : ℕ) (cs : List ColumnRecord) → ((k : ℕ) → k < length cs → (get_or cs k no_record).start ≡ at + span k cs) → in_order at (map bind_of cs) ≡ true
in_order_from at [] h = refl
in_order_from at (c ∷ cs) h =
    let e : c.start ≡ at = h 0 (omega arith) ∙ omega arith in
    and_from (leb at c.start) (in_order (c.start + c.capacity) (map bind_of cs))
    (le-leb at c.start (omega arith))
    (in_order_from (c.start + c.capacity) cs (λ k l. h (suc k) (omega arith) ∙ omega (arith, sum_by-cons capacity c (take k cs))))

end_by : (n : ℕ) (cs : List ColumnRecord) → ((k : ℕ) → k < length cs → (get_or cs k no_record).start + (get_or cs k no_record).capacity ≤ n) → all_end_by n (map bind_of cs) ≡ true
end_by n [] h = refl
end_by n (c ∷ cs) h =
    and_from (leb (c.start + c.capacity) n) (all_end_by n (map bind_of cs))
    (le-leb (c.start + c.capacity) n (h 0 (omega arith)))
    (end_by n cs (λ k l. h (suc k) (omega arith)))

module _ (t : ColumnTable) where
  pub binds_length : length (binds t) ≡ count_of t
  binds_length = length-map (items t) bind_of

  pub binds_at : (k : ℕ) → k < count_of t → get_or (binds t) k no_bind ≡ bind_of (col t k)
  binds_at k l = get_or-map bind_of (items t) k no_record no_bind l

  pub binds_in_order : in_order 0 (binds t) ≡ true
  binds_in_order = in_order_from 0 (items t) (λ k l. omega (arith, t.laid k l))

  pub binds_end_by : (n : ℕ) → t.room ≤ n → all_end_by n (binds t) ≡ true
  binds_end_by n h = let w = t.within in end_by n (items t) (λ k l. omega (arith, inside t k l))

  -- a byte of a place lies before the end of the places
  pub in_place_inside : (p : ℕ) → InPlace (binds t) p → p < end t
  in_place_inside p (k, l, from, to) =
      let m : k < count_of t = omega (arith, binds_length) in
      omega (arith, inside t k m, subst (λ (z : BindRecord). p < z.start + z.capacity) (binds_at k m) to)

  -- a place of a fixed code has its size
  pub sized_at : (k : ℕ) → k < count_of t → (size : ℕ) → size_of (col t k).code ≡ Some size → (col t k).capacity ≡ size
  sized_at k l size e = sym (t.sized k l) ∙ ap (λ (z : Option ℕ). bytes_by z (col t k).capacity) e

-- columns of which the host is told the same: they lie alike

abbrev told : List BindRecord → ℕ
told bs = sum_by (λ (b : BindRecord). b.capacity) bs

told_total : (cs : List ColumnRecord) → total cs ≡ told (map bind_of cs)
told_total [] = refl
told_total (c ∷ cs) = sum_by-cons capacity c cs ∙ ap (λ n. c.capacity + n) (told_total cs) ∙ sym (sum_by-cons (λ (b : BindRecord). b.capacity) (bind_of c) (map bind_of cs))

module _ (cs ds : List ColumnRecord) (e : map bind_of ds ≡ map bind_of cs) where
  pub same_count : length ds ≡ length cs
  same_count = sym (length-map ds bind_of) ∙ ap length e ∙ length-map cs bind_of

  pub same_bind_at : (k : ℕ) → k < length cs → bind_of (get_or ds k no_record) ≡ bind_of (get_or cs k no_record)
  same_bind_at k l =
      sym (get_or-map bind_of ds k no_record no_bind (omega (arith, same_count)))
      ∙ ap (λ (z : List BindRecord). get_or z k no_bind) e ∙ get_or-map bind_of cs k no_record no_bind l

  pub same_total : total ds ≡ total cs
  same_total = told_total ds ∙ ap told e ∙ sym (told_total cs)

  same_span : (k : ℕ) → span k ds ≡ span k cs
  same_span k = told_total (take k ds) ∙ ap told (sym (take-map bind_of k ds) ∙ ap (take k) e ∙ take-map bind_of k cs) ∙ sym (told_total (take k cs))

  pub same_lies : Lies cs → Lies ds
  same_lies h k l = let m : k < length cs = omega (arith, same_count) in ap (λ (z : BindRecord). z.start) (same_bind_at k m) ∙ h k m ∙ sym (same_span k)

  pub same_room : SomeRoom cs → SomeRoom ds
  same_room h k l = let m : k < length cs = omega (arith, same_count) in subst (λ (z : BindRecord). 1 ≤ z.capacity) (sym (same_bind_at k m)) (h k m)

  pub same_sized : Sized cs → Sized ds
  same_sized h k l = let m : k < length cs = omega (arith, same_count) in subst (λ (z : BindRecord). bytes_by (size_of z.code) z.capacity ≡ z.capacity) (sym (same_bind_at k m)) (h k m)

-- where places stay, the host is told the same of each column
pub same_bind : (old new : ColumnTable) → SamePlaces old new → (k : ℕ) → k < count_of old → bind_of (col new k) ≡ bind_of (col old k)
same_bind old new same k l = same_bind_at (items old) (items new) same.binds_same k l
