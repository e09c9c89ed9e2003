-- One column more of a table.
use Rattle.std.proofs.Common.{◌≡◌, ℕ, ◌+◌, ◌<◌, ◌≤◌, List, [], ◌∷◌, ◌++◌, length, get_or, sym, ap, ◌∙◌, subst, arith, below_more}
use Rattle.std.proofs.lemmas.List.{take-append-le, length-append, get_or_append_left}
use Rattle.std.proofs.Math.Seq.{get_or-append_seam}
use Rattle.mysql.specs.Types.{size_of}
use Rattle.layout.specs.declared.record.ColumnRecord.{ColumnRecord}
use Rattle.layout.specs.declared.table.ColumnTable.{ColumnTable}
use Rattle.layout.specs.Columns.{no_record, total, span, bytes_by, Lies, SomeRoom, Sized, moved}
use Rattle.layout.specs.Tables.{items, count_of, col, end, Added}
use Rattle.layout.proofs.Spans.{span_all}

module _ (cs : List ColumnRecord) (x : ColumnRecord) where
  abbrev longer : List ColumnRecord
  longer = cs ++ x ∷ []

  pub length_push : length longer ≡ length cs + 1
  length_push = length-append cs (x ∷ [])

  -- what holds of each record, and of x, holds with x at the end
  pub each_push : (P : ℕ → ColumnRecord → Type 0) → P (length cs) x → ((k : ℕ) → k < length cs → P k (get_or cs k no_record)) → (k : ℕ) → k < length longer → P k (get_or longer k no_record)
  each_push P p h k l = below_more (λ k. P k (get_or longer k no_record)) (length cs)
      (λ k m. subst (P k) (sym (get_or_append_left cs (x ∷ []) no_record k m)) (h k m))
      (subst (P (length cs)) (sym (get_or-append_seam cs x [] no_record)) p)
      k (omega (arith, length_push))

  span_push : (k : ℕ) → k ≤ length cs → span k longer ≡ span k cs
  span_push k h = ap total (take-append-le k cs (x ∷ []) h)

  pub lies_push : x.start ≡ total cs → Lies cs → Lies longer
  lies_push e h = each_push (λ k z. z.start ≡ span k longer)
      (e ∙ sym (span_all cs (length cs) (omega arith)) ∙ sym (span_push (length cs) (omega arith)))
      (λ k l. h k l ∙ sym (span_push k (omega arith)))

  pub roomy_push : 1 ≤ x.capacity → SomeRoom cs → SomeRoom longer
  roomy_push e h = each_push (λ k z. 1 ≤ z.capacity) e h

  pub sized_push : bytes_by (size_of x.code) x.capacity ≡ x.capacity → Sized cs → Sized longer
  sized_push e h = each_push (λ k z. bytes_by (size_of z.code) z.capacity ≡ z.capacity) e h

-- what holds of the columns of a table, and of one that is added, holds of all
module _ (x : ColumnRecord) (t v : ColumnTable) (a : Added x t v) where
  pub added_count : count_of v ≡ count_of t + 1
  added_count = ap length a.columns ∙ length_push (items t) (moved x (end t) x.capacity)

  pub added_each : (P : ℕ → ColumnRecord → Type 0) → P (count_of t) (moved x (end t) x.capacity) → ((k : ℕ) → k < count_of t → P k (col t k)) → (k : ℕ) → k < count_of t + 1 → P k (col v k)
  added_each P p h k l =
      subst (λ (zs : List ColumnRecord). P k (get_or zs k no_record)) (sym a.columns)
      (each_push (items t) (moved x (end t) x.capacity) P p h k (omega (arith, length_push (items t) (moved x (end t) x.capacity))))
