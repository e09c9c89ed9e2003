-- A tape's columns, and what may be bound to them.
-- Assumes nothing.
use Rattle.std.proofs.Common.{◌≡◌, Bool, ◌&&◌, eqb, List, [], ◌∷◌, length, refl, ap, arith}
use Rattle.std.specs.List.{list_all, zip}
use Rattle.mysql.specs.declared.bind.Column.{Column}
use Rattle.host.specs.declared.records.BindRecord.{BindRecord}
use Rattle.tape_host.specs.Codes.{own_codes}

-- codes that are asked for, one column after the other
abbrev pub own_pair : Column × BindRecord → Bool
own_pair p = eqb p.1.code p.0.code

pub codes_all : (cs : List Column) (rs : List BindRecord) → length rs ≡ length cs → list_all own_pair (zip cs rs) ≡ own_codes cs rs
codes_all [] [] e = refl
codes_all [] (r ∷ rs) e = absurd (omega arith)
codes_all (c ∷ cs) [] e = absurd (omega arith)
codes_all (c ∷ cs) (r ∷ rs) e = ap (λ x. eqb r.code c.code && x) (codes_all cs rs (omega arith))
