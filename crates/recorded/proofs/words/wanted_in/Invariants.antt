use Rattle.std.proofs.Common.{◌≤◌, map, vec_capacity}
use Rattle.recorded.specs.Grammar.{Entries}
use Rattle.recorded.proofs.words.wanted_in.Given as goal

-- the entries so far, and that the vector's room was not lost
abbrev pub invariant-loop-entry : goal.invariant-loop-entry
invariant-loop-entry l =
    (goal.iterator-loop-entry).can_next l.entry-iterator ×
    (goal.iterator-loop-entry).is_finite l.entry-iterator × Entries (map (λ w. w.now) l.yielded) l.wanted.items × (vec_capacity l.initial.wanted ≤ vec_capacity l.wanted)
