use Rattle.std.proofs.Common.{◌<◌, ◌≤◌, true, false, Some, None, Option, MatchOption, arith, rules}
use Rattle.layout.specs.declared.table.ColumnTable.{ColumnTable}
use Rattle.layout.specs.Tables.{Grown, Relaid, need, sum_of}
use Rattle.layout.proofs.Wanting.{need_wide}
use Rattle.layout.proofs.table.ColumnTable.grown.Goals as goal

-- a tight layout, where the wide one is too long
tight_or_none : {X : Type 0} (t u : ColumnTable) (laid : Option X) → t.room < sum_of false t
    → MatchOption laid (t.room < need t) (λ _. (need t ≤ t.room) × (Relaid true t u)) → MatchOption laid (t.room < need t) (λ _. Grown t u)
tight_or_none t u None long h = h
tight_or_none t u (Some x) long h = record {
  enough = h.0;
  tight = true;
  laid = h.1;
  rule_tight = λ x. long;
  rule_wide = λ x. absurd cc;
}

pub returns-in-Some : goal.returns-in-Some
returns-in-Some c =
    let t = c.args.self.now in
    let e = c.in-Some.ensures false (λ x n w. search rules) in
    record {
      enough = omega (arith, e.0, need_wide t);
      tight = false;
      laid = e.1;
      rule_tight = λ x. absurd cc;
      rule_wide = λ x. e.0;
    }

pub returns-in-None : goal.returns-in-None
returns-in-None c =
    tight_or_none c.args.self.now _ c.relaid-in-None.result
    (c.in-None.ensures false (λ x n w. search rules))
    (c.relaid-in-None.ensures true (λ x n w. search rules))
