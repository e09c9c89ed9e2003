-- The capacities of a table after a fetch are those that its event leaves.
use Rattle.std.proofs.Common.{◌≡◌, ℕ, suc, ◌+◌, ◌<◌, ◌≤◌, Bool, true, false, cond, leb, List, [], ◌∷◌, ◌++◌, map, length, get_or, Some, None, Option, sym, refl, ap, ◌∙◌, arith}
use Rattle.std.specs.List.{sum, fold}
use Rattle.std.proofs.lemmas.List.Sums.{sum-map, sum_by-cons}
use Rattle.std.proofs.lemmas.Bool.{le-ltb}
use Rattle.mysql.specs.declared.bind.Column.{Column}
use Rattle.mysql.specs.Types.{size_of}
use Rattle.host.specs.declared.records.BindRecord.{BindRecord}
use Rattle.host.specs.Meanings.{Row, Event}
use Rattle.layout.specs.declared.record.ColumnRecord.{ColumnRecord}
use Rattle.layout.specs.declared.table.ColumnTable.{ColumnTable}
use Rattle.layout.specs.Columns.{no_record, bind_of}
use Rattle.layout.specs.Tables.{items, count_of, no_pair, col, binds, first_capacity, first_record, end, OpeningTable, SamePlaces}
use Rattle.rows.specs.Bounds.{field_at, field_need}
use Rattle.rows.specs.Standing.{pair_of, pairs_of, wide_sum, widened_to, capacity_after, Regrown}
use Rattle.rows.specs.Reach.{capacities_of, first_capacities, wide, tight, grown, capacities_after, reach_from}
use Rattle.rows.proofs.Counts.{wide_at}

abbrev capacities : List ColumnRecord → List ℕ
capacities cs = map (λ c. c.capacity) cs

-- places end where their capacities, added up, do
pub end_is : (t : ColumnTable) → sum (capacities_of t) ≡ end t
end_is t = sum-map (λ c. c.capacity) (items t)

-- an opening's
first_is : (ds : List ColumnRecord) (ps : List Column) → length ds ≡ length ps → ((k : ℕ) → k < length ps → (get_or ds k no_record).capacity ≡ first_capacity (size_of (get_or ps k no_pair).code)) → capacities ds ≡ first_capacities ps
first_is [] [] e h = refl
first_is [] (p ∷ ps) e h = absurd (omega arith)
first_is (d ∷ ds) [] e h = absurd (omega arith)
first_is (d ∷ ds) (p ∷ ps) e h =
    ap (λ (n : ℕ). n ∷ capacities ds) (h 0 (omega arith)) ∙ ap (λ (ns : List ℕ). first_capacity (size_of p.code) ∷ ns) (first_is ds ps (omega arith) (λ k l. h (suc k) (omega arith)))

pub opening_capacities : (pairs : List Column) (room : ℕ) (t : ColumnTable) → OpeningTable pairs room t → capacities_of t ≡ first_capacities pairs
opening_capacities pairs room t w = first_is (items t) pairs w.as_many (λ k l. ap (λ (c : ColumnRecord). c.capacity) (w.each k l))

-- the same places have the same capacities
bound_capacities : (cs : List ColumnRecord) → map (λ (b : BindRecord). b.capacity) (map bind_of cs) ≡ capacities cs
bound_capacities [] = refl
bound_capacities (c ∷ cs) = ap (λ (ns : List ℕ). c.capacity ∷ ns) (bound_capacities cs)

pub same_capacities : (t u : ColumnTable) → SamePlaces t u → capacities_of u ≡ capacities_of t
same_capacities t u w = sym (bound_capacities (items u)) ∙ ap (map (λ (b : BindRecord). b.capacity)) w.binds_same ∙ bound_capacities (items t)

sum_cons : (n : ℕ) (ns : List ℕ) → sum (n ∷ ns) ≡ n + sum ns
sum_cons n ns = sum_by-cons (λ k. k) n ns

-- a shown row's
module _ (r : Row) where
  wide_total : (i : ℕ) (cs : List ColumnRecord) → sum (wide r i (map pair_of cs) (capacities cs)) ≡ wide_sum r i cs
  wide_total i [] = refl
  wide_total i (c ∷ cs) = sum_cons (wide_at r i c) (wide r (suc i) (map pair_of cs) (capacities cs)) ∙ ap (λ (n : ℕ). wide_at r i c + n) (wide_total (suc i) cs)

  wide_is : (i : ℕ) (ds cs : List ColumnRecord) → length ds ≡ length cs → ((k : ℕ) → k < length cs → (get_or ds k no_record).capacity ≡ wide_at r (i + k) (get_or cs k no_record)) → capacities ds ≡ wide r i (map pair_of cs) (capacities cs)
  wide_is i [] [] e h = refl
  wide_is i [] (c ∷ cs) e h = absurd (omega arith)
  wide_is i (d ∷ ds) [] e h = absurd (omega arith)
  wide_is i (d ∷ ds) (c ∷ cs) e h =
      let z : i + 0 ≡ i = omega arith in
      let first : d.capacity ≡ wide_at r i c = h 0 (omega arith) ∙ ap (λ (n : ℕ). wide_at r n c) z in
      let rest = wide_is (suc i) ds cs (omega arith) (λ k l. let y : i + suc k ≡ suc i + k = omega arith in h (suc k) (omega arith) ∙ ap (λ (n : ℕ). wide_at r n (get_or cs k no_record)) y) in
      ap (λ (n : ℕ). n ∷ capacities ds) first ∙ ap (λ (ns : List ℕ). wide_at r i c ∷ ns) rest

  abbrev need_at : ℕ → ColumnRecord → ℕ
  need_at k c = field_need (size_of c.code) (field_at r k (pair_of c))

  tight_is : (i : ℕ) (ds cs : List ColumnRecord) → length ds ≡ length cs → ((k : ℕ) → k < length cs → (get_or ds k no_record).capacity ≡ need_at (i + k) (get_or cs k no_record)) → capacities ds ≡ tight r i (map pair_of cs)
  tight_is i [] [] e h = refl
  tight_is i [] (c ∷ cs) e h = absurd (omega arith)
  tight_is i (d ∷ ds) [] e h = absurd (omega arith)
  tight_is i (d ∷ ds) (c ∷ cs) e h =
      let z : i + 0 ≡ i = omega arith in
      let first : d.capacity ≡ need_at i c = h 0 (omega arith) ∙ ap (λ (n : ℕ). need_at n c) z in
      let rest = tight_is (suc i) ds cs (omega arith) (λ k l. let y : i + suc k ≡ suc i + k = omega arith in h (suc k) (omega arith) ∙ ap (λ (n : ℕ). need_at n (get_or cs k no_record)) y) in
      ap (λ (n : ℕ). n ∷ capacities ds) first ∙ ap (λ (ns : List ℕ). need_at i c ∷ ns) rest

  pub grown_capacities : (t u : ColumnTable) → Regrown r t u → capacities_of u ≡ grown (pairs_of t) t.room r (capacities_of t)
  grown_capacities t u w = by_sum (leb (wide_sum r 0 (items t)) t.room) refl
    where
      z : (k : ℕ) → k ≡ 0 + k
      z k = omega arith

      by_sum : (b : Bool) → leb (wide_sum r 0 (items t)) t.room ≡ b → capacities_of u ≡ grown (pairs_of t) t.room r (capacities_of t)
      by_sum true e =
          wide_is 0 (items u) (items t) w.count
          (λ k l. w.capacities k l ∙ ap (λ (b : Bool). cond b (wide_at r k (col t k)) (need_at k (col t k))) e ∙ ap (λ (n : ℕ). wide_at r n (col t k)) (z k))
          ∙ ap (λ (b : Bool). cond b (wide r 0 (pairs_of t) (capacities_of t)) (tight r 0 (pairs_of t))) (sym (ap (λ (n : ℕ). leb n t.room) (wide_total 0 (items t)) ∙ e))
      by_sum false e =
          tight_is 0 (items u) (items t) w.count
          (λ k l. w.capacities k l ∙ ap (λ (b : Bool). cond b (wide_at r k (col t k)) (need_at k (col t k))) e ∙ ap (λ (n : ℕ). need_at n (col t k)) (z k))
          ∙ ap (λ (b : Bool). cond b (wide r 0 (pairs_of t) (capacities_of t)) (tight r 0 (pairs_of t))) (sym (ap (λ (n : ℕ). leb n t.room) (wide_total 0 (items t)) ∙ e))

-- The furthest end grows with the events, and is never before that of the places as they are.
module _ (pairs : List Column) (arena : ℕ) where
  abbrev pub after_all : List ℕ → List Event → List ℕ
  after_all ns es = fold (capacities_after pairs arena) ns es

  pub end_reached : (ns : List ℕ) (es : List Event) → sum ns ≤ reach_from pairs arena ns es
  end_reached ns [] = omega arith
  end_reached ns (e ∷ es) = omega arith

  pub reach_more : (ns : List ℕ) (es rest : List Event) → reach_from pairs arena ns es ≤ reach_from pairs arena ns (es ++ rest)
  reach_more ns [] rest = end_reached ns rest
  reach_more ns (e ∷ es) rest = let h = reach_more (capacities_after pairs arena ns e) es rest in omega (arith, h)

  pub last_reached : (ns : List ℕ) (es : List Event) → sum (after_all ns es) ≤ reach_from pairs arena ns es
  last_reached ns [] = omega arith
  last_reached ns (e ∷ es) = let h = last_reached (capacities_after pairs arena ns e) es in omega (arith, h)
