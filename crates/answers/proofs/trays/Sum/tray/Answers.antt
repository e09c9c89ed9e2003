use Rattle.std.proofs.Common.{[], ◌++◌, length, sym, ◌∙◌}
use Rattle.walk.specs.Walks.{walk_said}
use Rattle.tray.specs.Trays as tray
use Rattle.answers.specs.Trays.{trouble_in, numbers}
use Rattle.answers.proofs.Summed.{numbers_alone, trouble_alone}
use Rattle.answers.proofs.trays.Sum.tray.Goals as goal

pub returns-then-is_empty : goal.returns-then-is_empty
returns-then-is_empty c =
    let said = walk_said (tray.means c.new.result) c.args.wanted.now (length c.args.arena.now) in
    let h = c.walk.ensures.said [] c.requires in
    let trouble = trouble_in said in
    let e = sym (c.is_empty.ensures trouble h.trouble) ∙ c.if-is_empty.true in
    (trouble ++ numbers said, (c.new.result, c.new.ensures, sym (numbers_alone (numbers said) trouble e)), c.numbers.ensures said trouble h h.trouble)

pub returns-else-is_empty : goal.returns-else-is_empty
returns-else-is_empty c =
    let said = walk_said (tray.means c.new.result) c.args.wanted.now (length c.args.arena.now) in
    let h = c.walk.ensures.said [] c.requires in
    let trouble = trouble_in said in
    let e = sym (c.is_empty.ensures trouble h.trouble) ∙ c.if-is_empty.false in
    (trouble, (c.new.result, c.new.ensures, sym (trouble_alone (numbers said) trouble e)), h.trouble)
