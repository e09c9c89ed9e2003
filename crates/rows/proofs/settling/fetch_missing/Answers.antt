use Rattle.std.proofs.Common.{◌≡◌, ℕ, ◌+◌, ◌-◌, ◌<◌, ◌≤◌, List, length, get_or, sym, refl, ap, ◌∙◌, subst, arith, rules}
use Rattle.host.specs.Meanings.{Meaning}
use Rattle.host.specs.Calls.{record_of}
use Rattle.layout.specs.declared.record.ColumnRecord.{ColumnRecord}
use Rattle.layout.specs.declared.table.ColumnTable.{ColumnTable}
use Rattle.layout.specs.Columns.{no_record, Over, bind_of}
use Rattle.layout.specs.Tables.{count_of, col, SamePlaces}
use Rattle.layout.proofs.Fitting.{fits_unless_over}
use Rattle.layout.proofs.Noting.{same_places}
use Rattle.rows.proofs.Columned.{bound_at}
use Rattle.rows.proofs.Wholes.{WholeTo, whole_none, whole_skip, whole_fetched, missing_inside}
use Rattle.rows.proofs.Asked.{AskedTo, error_again, denied_before, asked_none, asked_skip, asked_more, beyond_part}
use Rattle.std.proofs.lemmas.Result.{err_from_is_err_and}
use Rattle.rows.proofs.settling.fetch_missing.Goals as goal
use Rattle.rows.proofs.settling.fetch_missing.Goals.{then-is_over+in_ok-report, else-is_over}

-- where a column is over, what is missing of it lies inside the arena
missing_fits : (g : Rattle.rows.proofs.settling.fetch_missing.Given.Over) (c : goal.After-columns g)
    → (get_or c.columns.result.now c.loop-i.i no_record).start + (get_or c.columns-column-items.result.now c.loop-i.i no_record).length ≤ length c.loop-i.arena
missing_fits g c =
    let at = ap (λ (z : List ColumnRecord). get_or z c.loop-i.i no_record) c.columns-column-items.ensures in
    let to = ap (λ (z : List ColumnRecord). get_or z c.loop-i.i no_record) c.columns.ensures in
    omega (arith, c.requires.room, c.loop-i.auto.arena, missing_inside c.args.old.now c.args.new.now c.loop-i.new c.requires.grown c.loop-i.invariant.0 c.loop-i.i (omega (arith, c.loop-i-test.true, ap length c.columns-column-items.ensures)) _ _ at to (c.is_over.ensures.yes c.if-is_over.true))

pub overflow_add-missing : goal.overflow_add-missing
overflow_add-missing g c = let z = missing_fits g c in let o = (c.is_over.ensures.yes c.if-is_over.true).longer in search rules

pub overflow_add-missing-then-is_over : goal.overflow_add-missing-then-is_over
overflow_add-missing-then-is_over g c = let z = missing_fits g c in let o = (c.is_over.ensures.yes c.if-is_over.true).longer in search rules

pub slice_bounds-missing-start : goal.slice_bounds-missing-start
slice_bounds-missing-start g c = let z = missing_fits g c in let o = (c.is_over.ensures.yes c.if-is_over.true).longer in search rules

pub slice_bounds-missing-end : goal.slice_bounds-missing-end
slice_bounds-missing-end g c = let z = missing_fits g c in let o = (c.is_over.ensures.yes c.if-is_over.true).longer in search rules

pub slice_bounds-missing-count : goal.slice_bounds-missing-count
slice_bounds-missing-count g c = let z = missing_fits g c in let o = (c.is_over.ensures.yes c.if-is_over.true).longer in search rules

pub loop-i-init : goal.loop-i-init
loop-i-init g c = (
  record { count = refl; room = refl; binds_same = refl; end_same = refl },
  asked_none (g.H.Host.meaning c.args.host.now) c.args.old.now c.args.new.now c.args.arena.now,
  λ row half. whole_none c.args.old.now c.args.new.now c.requires.grown (g.H.Host.meaning c.args.host.now) row c.args.arena.now half,
)

pub returns-in_err-report : goal.returns-in_err-report
returns-in_err-report g c =
    let old = c.args.old.now in let i = c.loop-i.i in
    let l : i < count_of old = omega (arith, c.loop-i-test.true, ap length c.columns-column-items.ensures) in
    let at = ap (λ (z : List ColumnRecord). get_or z i no_record) c.columns-column-items.ensures in
    let to = ap (λ (z : List ColumnRecord). get_or z i no_record) c.columns.ensures in
    let m = g.H.Host.meaning c.args.host.now in let n = g.H.Host.meaning c.loop-i.host in
    let asked = c.loop-i.invariant.1 in
    let o = c.is_over.ensures.yes c.if-is_over.true in
    let longer = o.longer in
    let room : old.room ≤ length c.loop-i.arena = omega (arith, c.requires.room, c.loop-i.auto.arena) in
    let inside = missing_inside old c.args.new.now c.loop-i.new c.requires.grown c.loop-i.invariant.0 i l _ _ at to o in
    let long : length c.fetch_part.new.part ≡ (get_or c.columns.result.now i no_record).start + (get_or c.columns-column-items.result.now i no_record).length - ((get_or c.columns.result.now i no_record).start + (get_or c.columns-column-items.result.now i no_record).capacity) = search rules in
    let p = err_from_is_err_and c.from_residual.result c.from_residual.ensures.1 in
    record {
      places = c.loop-i.invariant.0;
      host = error_again m n (g.H.Host.meaning c.fetch_part.new.host) asked.host c.fetch_part.ensures.host;
      beyond = beyond_part i m old c.args.new.now c.args.arena.now n c.loop-i.new c.loop-i.arena asked c.requires.grown c.loop-i.invariant.0 l _ _ at to o room c.fetch_part.new.part long _ refl;
      asked = rw (p.1, p.2) (record { fault = c.in_err-report.ensures.asked.0; column = i; within = l; over = subst Over at o; denied = denied_before m n i asked.host c.in_err-report.ensures.asked.1 });
      came = λ row half.
          let so_far = c.loop-i.invariant.2 row half in
          absurd (c.in_err-report.ensures.came row (bind_of (col old i))
          (ap (λ (x : Meaning). x.current) so_far.host ∙ half.current.current)
          (ap (λ (x : Meaning). record_of x i) so_far.host ∙ bound_at (g.H.Host.meaning c.args.host.now) row old half.current i l));
    }

pub loop-i-preserved : goal.loop-i-preserved
loop-i-preserved g c =
    let old = c.args.old.now in let new = c.args.new.now in let i = c.loop-i.i in
    let gr = c.requires.grown in
    let m = g.H.Host.meaning c.args.host.now in
    let n = g.H.Host.meaning c.loop-i.host in
    let a = c.args.arena.now in let t = c.loop-i.new in let b = c.loop-i.arena in
    let sp = c.loop-i.invariant.0 in
    let l : i < count_of old = omega (arith, c.loop-i-test.true, ap length c.columns-column-items.ensures) in
    let at = ap (λ (z : List ColumnRecord). get_or z i no_record) c.columns-column-items.ensures in
    elim c.if-is_over.branch [
      | then-is_over+in_ok-report w ↦
          let o = c.is_over.ensures.yes w.if-is_over.true in
          let u = w.note.new.self in
          let n' = g.H.Host.meaning w.fetch_part.new.host in
          let room : old.room ≤ length b = omega (arith, c.requires.room, c.loop-i.auto.arena) in
          let to = ap (λ (z : List ColumnRecord). get_or z i no_record) w.columns.ensures in
          let z = missing_inside old new t gr sp i l _ _ at to o in
          let longer = o.longer in
          let long : length w.fetch_part.new.part ≡ (get_or w.columns.result.now i no_record).start + (get_or c.columns-column-items.result.now i no_record).length - ((get_or w.columns.result.now i no_record).start + (get_or c.columns-column-items.result.now i no_record).capacity) = search rules in (
            subst (λ (z : ColumnTable). SamePlaces new z) (sym w.new-is) (same_places new t u sp w.note.ensures.places),
            subst (λ (z : Meaning). AskedTo (i + 1) m old new a z c.if-is_over.new c.if-is_over.arena) (sym (ap g.H.Host.meaning w.host-is))
                (subst (λ (z : ColumnTable). AskedTo (i + 1) m old new a n' z c.if-is_over.arena) (sym w.new-is)
                (asked_more i m old new a n t b c.loop-i.invariant.1 gr sp l _ _ at to o room w.fetch_part.new.part long c.if-is_over.arena w.arena-is n' w.fetch_part.ensures.host w.in_ok-report.report w.in_ok-report.ensures.asked u w.note.ensures.noted)),
            λ row half.
                let so_far = c.loop-i.invariant.2 row half in
                let got = w.in_ok-report.ensures.came row (bind_of (col old i))
                (ap (λ (x : Meaning). x.current) so_far.host ∙ half.current.current)
                (ap (λ (x : Meaning). record_of x i) so_far.host ∙ bound_at m row old half.current i l) in
                let step = whole_fetched old new gr m row a half i l n t b so_far sp _ _ at to o room n' u c.if-is_over.arena w.in_ok-report.report w.fetch_part.new.part long w.arena-is got w.note.ensures.noted in
                subst (λ (z : Meaning). WholeTo (i + 1) m row old new a z c.if-is_over.new c.if-is_over.arena) (sym (ap g.H.Host.meaning w.host-is))
                (subst (λ (z : ColumnTable). WholeTo (i + 1) m row old new a n' z c.if-is_over.arena) (sym w.new-is) step),
          )
      | else-is_over w ↦
          let fit = fits_unless_over old i l (λ o. c.is_over.ensures.no w.if-is_over.false (subst Over (sym at) o)) in (
            subst (λ (z : ColumnTable). SamePlaces new z) (sym w.new-is) sp,
            subst (λ (z : Meaning). AskedTo (i + 1) m old new a z c.if-is_over.new c.if-is_over.arena) (sym (ap g.H.Host.meaning w.host-is))
                (subst (λ (z : ColumnTable). AskedTo (i + 1) m old new a n z c.if-is_over.arena) (sym w.new-is)
                (subst (λ (z : List ℕ). AskedTo (i + 1) m old new a n t z) (sym w.arena-is)
                (asked_skip i m old new a n t b c.loop-i.invariant.1 (λ o. c.is_over.ensures.no w.if-is_over.false (subst Over (sym at) o))))),
            λ row half.
                let step = whole_skip old new gr m row a half i l n t b (c.loop-i.invariant.2 row half) fit in
                subst (λ (z : Meaning). WholeTo (i + 1) m row old new a z c.if-is_over.new c.if-is_over.arena) (sym (ap g.H.Host.meaning w.host-is))
                (subst (λ (z : ColumnTable). WholeTo (i + 1) m row old new a n z c.if-is_over.arena) (sym w.new-is)
                (subst (λ (z : List ℕ). WholeTo (i + 1) m row old new a n t z) (sym w.arena-is) step)),
          )
    ]

pub returns : goal.returns
returns g c = record {
  places = c.loop-i.invariant.0;
  host = c.loop-i.invariant.1.host;
  beyond = c.loop-i.invariant.1.beyond;
  asked = record {
    pairs = c.loop-i.invariant.1.pairs;
    others = λ k not. c.loop-i.invariant.1.others k (λ _. not);
    parts = λ k l. c.loop-i.invariant.1.parts k (let done : count_of c.args.old.now ≤ c.loop-i.i = omega (arith, c.loop-i-test.false, ap length c.columns-column-items.ensures) in omega arith) l;
  };
  came = λ row half.
      let w = c.loop-i.invariant.2 row half in
      let done : count_of c.args.old.now ≤ c.loop-i.i = omega (arith, c.loop-i-test.false, ap length c.columns-column-items.ensures) in
      record {
        host = w.host;
        pairs = w.pairs;
        reported = λ k l. w.reported k (omega arith) l;
        whole = λ k l. w.whole k (omega arith) l;
        told = w.told;
        beyond = w.beyond;
      };
}
