use Rattle.std.proofs.Common.{Bool, [], length, map, sym, ap, ◌∙◌, subst, vec_items}
use Rattle.class_list.specs.Lists.{lines_in, listed}
use Rattle.class_list.specs.Loads.{HoldsIf, LoadsAs}
use Rattle.class_list.specs.Told as held
use Rattle.class_list.proofs.Collecting.{not_listed, cut_short, whole}
use Rattle.class_list.proofs.loading.load.Goals as goal
use Rattle.class_list.proofs.loading.load.Goals.{in-Err, in-Ok, in-Ok-2}

pub returns-clause-lines : goal.returns-clause-lines
returns-clause-lines g c =
    let told = c.tell_lines-host in
    let all = listed (g.H.Host.meaning c.args.host) (length c.args.arena.now) c.args.wanted.now in
    let lines = vec_items told.new.listener.lines in
    let heard : HoldsIf told.new.listener.is_full lines (lines_in all) = told.ensures.lines [] (ap (map held.told) c.new.ensures.items) in
    elim c.match-outcome.branch [
      | in-Err w ↦ subst (LoadsAs all lines) (sym w.outcome-is) (not_listed lines all told.new.listener.is_full w.in-Err.error (sym w.in-Err.is ∙ told.ensures.outcome) heard)
      | in-Ok w ↦ subst (LoadsAs all lines) (sym w.outcome-is) (cut_short lines all (sym w.in-Ok.is ∙ told.ensures.outcome) (subst (λ (b : Bool). HoldsIf b lines (lines_in all)) w.if-is_full.true heard))
      | in-Ok-2 w ↦ subst (LoadsAs all lines) (sym w.outcome-is) (whole lines all (sym w.in-Ok.is ∙ told.ensures.outcome) (subst (λ (b : Bool). HoldsIf b lines (lines_in all)) w.if-is_full.false heard))
    ]
