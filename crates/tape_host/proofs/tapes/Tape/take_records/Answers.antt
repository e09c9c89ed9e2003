use Rattle.std.proofs.Common.{◌≡◌, ℕ, ◌<◌, ◌≤◌, true, List, length, take, Some, min, sym, ap, ◌∙◌, subst, arith, rules}
use Rattle.host.specs.declared.records.BindRecord.{BindRecord}
use Rattle.std.proofs.lemmas.Grind.{common_steps}
use Rattle.host.specs.Calls.{in_order}
use Rattle.std.proofs.lemmas.List.{take_all}
use Rattle.tape.specs.declared.recording.Events.{Events}
use Rattle.tape.specs.Format.{ColumnsIn}
use Rattle.tape.specs.Unique.{columns_in_one}
use Rattle.tape.specs.Recordings.{EventsLeft}
use Rattle.tape_host.specs.Codes.{own_codes}
use Rattle.tape_host.specs.Formeds.{left_holds}
use Rattle.tape_host.specs.Tapes.{left_of, columns_of, current_of}
use Rattle.tape_host.proofs.Meant.{means_is, width_is}
use Rattle.tape_host.proofs.tapes.Tape.take_records.Goals as goal

pub bounds-self-i : goal.bounds-self-i
bounds-self-i c = omega (arith, c.requires.counted, width_is c.args.self.now, c.args.self.now.few)

-- the records that the array then has at its front
all_taken : (width i : ℕ) (xs bs : List BindRecord) → width ≡ i → length bs ≤ i → take i xs ≡ take i bs → take width xs ≡ bs
all_taken width i xs bs n l e = ap (λ k. take k xs) n ∙ e ∙ take_all i bs l

pub loop-i-preserved : goal.loop-i-preserved
loop-i-preserved c =
    let l : c.loop-i.i < 64 = omega (arith, c.requires.counted, width_is c.args.self.now, c.args.self.now.few) in
    let i = c.loop-i.invariant in
    record { unbound = i.unbound; events = i.events; width = i.width; current = i.current; error = i.error; long = search rules; taken = grind (arith, common_steps) }

pub invariant_of-self-2 : goal.invariant_of-self-2
invariant_of-self-2 c =
    let t = c.args.self.now in
    let x = c.loop-i.self in
    let bs = c.args.records.now in
    let n : x.width ≡ c.loop-i.i = omega (arith, c.loop-i.invariant.width, c.requires.counted, width_is t, c.loop-i-test.false, c.loop-i.auto.i-end) in
    let taken = all_taken x.width c.loop-i.i x.records bs n (omega arith) c.loop-i.invariant.taken in
    record {
      few = x.few;
      wide = x.wide;
      left = x.left;
      columned = x.columned;
      ordered = λ b. subst (λ (bs : List BindRecord). in_order 0 bs ≡ true) (sym taken) c.requires.ordered;
      coded = λ b cs h.
          let listed = subst (λ (s : Events). ColumnsIn s.columns.now cs) c.loop-i.invariant.events h in
          let same = columns_in_one t.events.columns.now (columns_of t) cs (left_holds t).columns_in listed in
          ap (own_codes cs) taken ∙ subst (λ cs. own_codes cs c.args.records.now ≡ true) same c.requires.coded;
    }

pub returns : goal.returns
returns c =
    let t = c.args.self.now in
    let i = c.loop-i.invariant in
    let x = c.loop-i.self in
    let bs = c.args.records.now in
    let n : x.width ≡ c.loop-i.i = omega (arith, i.width, c.requires.counted, width_is t, c.loop-i-test.false, c.loop-i.auto.i-end) in
    let taken = all_taken x.width c.loop-i.i x.records bs n (omega arith) i.taken in
    means_is _ (left_of t) (current_of t.current) (Some c.args.records.now) (min t.error 65535)
    (subst (λ (s : Events). EventsLeft s (left_of t)) (sym i.events) (left_holds t)) (ap current_of i.current) (ap Some taken) (ap (λ e. min e 65535) i.error)
