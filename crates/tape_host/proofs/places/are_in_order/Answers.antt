use Rattle.std.proofs.Common.{rules, tests}
use Rattle.std.proofs.lemmas.List.Sorted.{answers_always}
use Rattle.tape_host.proofs.Copied.{begins_after, order_is}
use Rattle.tape_host.proofs.places.are_in_order.Goals as goal

pub returns : goal.returns
returns c = order_is c.args.records.now c.is_sorted_by.result (c.is_sorted_by.ensures.cases begins_after (answers_always _ _ _ (λ f a r g k. search (rules, tests))))
