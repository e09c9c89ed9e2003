use Rattle.std.proofs.Common.{◌≡◌, inl, inr, true, false, eqb, sym, refl, ap, ◌∙◌}
use Rattle.host.specs.Calls.{with_error, bind_error}
use Rattle.host.proofs.Bound.{bind_after}
use Rattle.tape_host.specs.Formeds.{left_holds}
use Rattle.tape_host.specs.Tapes.{left_of, columns_of, current_of, bound_of, means}
use Rattle.tape_host.proofs.Called.{bind_error_is, bind_refused}
use Rattle.tape_host.proofs.Meant.{means_is, width_is}
use Rattle.tape_host.proofs.hosted.TapeHost.bind.Goals.{then-records-self-via-then-records-self, then-records-self-via-else-records-self+then-not-are_in_order}
use Rattle.tape_host.proofs.hosted.TapeHost.bind.Goals as goal

out_of_order : (c : goal.After-refuse) → bind_error (means c.args.self.now) c.args.records.now ≡ 2034
out_of_order c =
    bind_refused c.args.self.now c.args.records.now
    (elim c.then-records-self.branch [
      | then-records-self-via-then-records-self w ↦ inl w.if-records-self.true
      | then-records-self-via-else-records-self+then-not-are_in_order w ↦ inr (sym w.if-not-are_in_order.ensures)
    ])

pub returns-then-records-self-clause-granted : goal.returns-then-records-self-clause-granted
returns-then-records-self-clause-granted c = c.refuse.ensures.refused ∙ sym (ap (λ x. eqb x 0) (out_of_order c))

pub returns-then-records-self-clause-after : goal.returns-then-records-self-clause-after
returns-then-records-self-clause-after c = c.refuse.ensures.after ∙ bind_after (means c.args.self.now) c.args.records.now 2034 (out_of_order c)

pub returns-then-not-asks_own_codes : goal.returns-then-not-asks_own_codes
returns-then-not-asks_own_codes c =
    let t = c.args.self.now in
    let bs = c.args.records.now in
    let n = c.if-records-self.false ∙ width_is t in
    let own = c.if-not-asks_own_codes.ensures (columns_of t) (c.columns.ensures (left_of t) (left_holds t)) n in
    let e = bind_error_is t bs n (sym c.if-not-are_in_order.ensures) false (sym own) in
    let r = c.refuse-then-not-asks_own_codes.ensures in
    record { granted = r.refused ∙ sym (ap (λ x. eqb x 0) e); after = r.after ∙ bind_after (means t) bs 2036 e }

pub take_records-requires-clause-counted : goal.take_records-requires-clause-counted
take_records-requires-clause-counted c = c.if-records-self.false ∙ width_is c.args.self.now

pub take_records-requires-clause-coded : goal.take_records-requires-clause-coded
take_records-requires-clause-coded c =
    let t = c.args.self.now in
    sym (c.if-not-asks_own_codes.ensures (columns_of t) (c.columns.ensures (left_of t) (left_holds t)) (c.if-records-self.false ∙ width_is t))

pub returns : goal.returns
returns c =
    let t = c.args.self.now in
    let u = c.take_records.new.self in
    let bs = c.args.records.now in
    let n = c.if-records-self.false ∙ width_is t in
    let own = c.if-not-asks_own_codes.ensures (columns_of t) (c.columns.ensures (left_of t) (left_holds t)) n in
    let e = bind_error_is t bs n (sym c.if-not-are_in_order.ensures) true (sym own) in
    record {
      granted = sym (ap (λ x. eqb x 0) e);
      after = means_is _ (left_of u) (current_of u.current) (bound_of u) 0 (left_holds u) refl refl refl ∙ ap (with_error 0) c.take_records.ensures ∙ bind_after (means t) bs 0 e;
    }
