use Rattle.std.proofs.Common.{◌-◌, leb, length, sym, refl, ap, ◌∙◌}
use Rattle.tape_host.proofs.Copied.{last_ends}
use Rattle.tape_host.proofs.places.all_end_by.Goals as goal

pub returns-in-Some : goal.returns-in-Some
returns-in-Some c =
    ap (λ e. leb e c.args.arena) c.end_of.ensures
    ∙ last_ends c.args.arena 0 (length c.args.records.now - 1) c.args.records.now c.in-Some.last.now c.requires refl (sym c.in-Some.ensures.value)
