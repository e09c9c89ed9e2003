-- The columns of a table as pairs of code and flags, and what a host answers to its places.
use Rattle.std.proofs.Common.{◌≡◌, ℕ, suc, ◌<◌, Bool, true, false, cond, ◌&&◌, List, [], ◌∷◌, map, length, get_or, refl, ap, ◌∙◌}
use Rattle.std.proofs.lemmas.List.{get_or-map, length-map}
use Rattle.std.proofs.lemmas.Bool.{eq-eqb}
use Rattle.host.specs.Meanings.{Meaning}
use Rattle.host.specs.Calls.{in_order, carried, bind_error}
use Rattle.layout.specs.declared.record.ColumnRecord.{ColumnRecord}
use Rattle.layout.specs.declared.table.ColumnTable.{ColumnTable}
use Rattle.layout.specs.Columns.{no_record, bind_of}
use Rattle.layout.specs.Tables.{items, count_of, no_pair, col, binds}
use Rattle.layout.proofs.Binding.{binds_length, binds_in_order}
use Rattle.rows.specs.Bounds.{all_carried}
use Rattle.rows.specs.Standing.{pair_of, pairs_of}

pub not_both : {A : Type 0} (b : Bool) → b ≡ true → b ≡ false → A
not_both b p q = absurd cc

-- the columns of a table, as pairs

module _ (t : ColumnTable) where
  pub pairs_length : length (pairs_of t) ≡ count_of t
  pairs_length = length-map (items t) pair_of

  pub pair_at : (k : ℕ) → k < count_of t → get_or (pairs_of t) k no_pair ≡ pair_of (col t k)
  pair_at k l = get_or-map pair_of (items t) k no_record no_pair l

-- the host carries the codes of the places where it carries those of the pairs
carried_is : (m : Meaning) (k : ℕ) (cs : List ColumnRecord) → carried m k (map bind_of cs) ≡ all_carried m.carries k (map pair_of cs)
carried_is m k [] = refl
carried_is m k (c ∷ cs) = ap (λ (b : Bool). m.carries k c.code && b) (carried_is m (suc k) cs)

-- so a bind to a table's places is granted, or refused for a code
pub bind_error_is : (m : Meaning) (t : ColumnTable) → count_of t ≡ length m.columns → bind_error m (binds t) ≡ cond (all_carried m.carries 0 (pairs_of t)) 0 2036
bind_error_is m t e =
    let n : length (binds t) ≡ length m.columns = binds_length t ∙ e in
    ap (λ (b : Bool). cond (b && in_order 0 (binds t)) (cond (carried m 0 (binds t)) 0 2036) 2034) (eq-eqb (length (binds t)) (length m.columns) n)
    ∙ ap (λ (b : Bool). cond b (cond (carried m 0 (binds t)) 0 2036) 2034) (binds_in_order t)
    ∙ ap (λ (b : Bool). cond b 0 2036) (carried_is m 0 (items t))
