use Rattle.std.proofs.Common.{◌≡◌, ◌≤◌, vec_len, vec_capacity, length, ◌++◌, ◌∷◌, [], List, ℕ, sym, subst, inr, arith, rules, lit<}
use Rattle.std.proofs.lemmas.Result.{err_from_is_err_and}
use Rattle.std.proofs.lemmas.List.{map-append, length-map}
use Rattle.std.proofs.lemmas.Iterator.Consumers.{YieldsList-at, YieldsList-turn, YieldsList-end}
use Rattle.std.proofs.lemmas.Iterator.Splits.{YieldsList-from_str_split}
use Rattle.recorded.specs.Grammar.{Entries}
use Rattle.recorded.proofs.Fields.{entries_more, entries_length, lists_all, no_list, few_parts}
use Rattle.recorded.proofs.words.wanted_in.Goals as goal

pub loop-entry-preserved : goal.loop-entry-preserved
loop-entry-preserved c =
    let k = c.push.ensures.capacity in
    let i = c.loop-entry.invariant in
    let more = entries_more _ _ c.in-Some.entry.now c.in_ok-entry_in.field-0 i.2 c.in_ok-entry_in.ensures in
    let mapped = map-append (λ w. w.now) c.loop-entry.yielded (c.in-Some.entry ∷ []) in
    let put : c.push.new.self.items ≡ c.loop-entry.wanted.items ++ c.in_ok-entry_in.field-0 ∷ [] = search rules in
    (tt, tt, subst (λ (ws : List (List ℕ)). Entries ws c.push.new.self.items) (sym mapped) (rw put more), omega (arith, k, i.3))

pub returns-in_err-entry_in : goal.returns-in_err-entry_in
returns-in_err-entry_in c = λ room l.
    let p = err_from_is_err_and c.from_residual.result c.from_residual.ensures.1 in
    let s = c.split-entry-items.ensures in
    let road = YieldsList-at c.into_iter-entry-iterator.ensures.into_iter_gives (YieldsList-from_str_split 44 c.args.word.now (lit< tt) s.text s.has_more s.pattern) in
    let t = YieldsList-turn road c.loop-entry.yielded _ c.loop-entry.yielded_by _ _ c.in-Some.entry c.in-Some.is c.next.ensures.steps in
    let n = c.in_err-entry_in.ensures in
    rw (p.1, p.2) (no_list room c.args.word.now _ c.in-Some.entry.now (length c.loop-entry.yielded) (search rules) t.0 t.1 n.0 n.1)

pub returns-in_err-map_err : goal.returns-in_err-map_err
returns-in_err-map_err c = λ room l.
    let q = c.from_residual-in_err-map_err in
    let p = err_from_is_err_and q.result q.ensures.1 in
    let s = c.split-entry-items.ensures in
    let road = YieldsList-at c.into_iter-entry-iterator.ensures.into_iter_gives (YieldsList-from_str_split 44 c.args.word.now (lit< tt) s.text s.has_more s.pattern) in
    let t = YieldsList-turn road c.loop-entry.yielded _ c.loop-entry.yielded_by _ _ c.in-Some.entry c.in-Some.is c.next.ensures.steps in
    let few = few_parts c.args.word.now in
    let i = c.loop-entry.invariant in
    let same = entries_length _ _ i.2 in
    let mapped = length-map c.loop-entry.yielded (λ w. w.now) in
    let kept = c.clear.ensures.capacity in
    let small : vec_capacity c.loop-entry.wanted ≤ vec_len c.loop-entry.wanted = search rules in
    let long : length c.loop-entry.wanted.items ≡ vec_len c.loop-entry.wanted = search rules in
    let turn = t.0 in
    let at = i.3 in
    rw p.1 (inr (p.2, omega (arith, few, same, mapped, small, long, kept, turn, at, l)))

pub returns-in-None : goal.returns-in-None
returns-in-None c = λ room l.
    let s = c.split-entry-items.ensures in
    let road = YieldsList-at c.into_iter-entry-iterator.ensures.into_iter_gives (YieldsList-from_str_split 44 c.args.word.now (lit< tt) s.text s.has_more s.pattern) in
    let t = YieldsList-end road c.loop-entry.yielded _ c.loop-entry.yielded_by _ _ c.in-None.is c.next.ensures.steps in
    let i = c.loop-entry.invariant in
    lists_all c.args.word.now _ _ t.0 i.2
