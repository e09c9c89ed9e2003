use Rattle.std.proofs.Common.{ap, rules}
use Rattle.std.proofs.lemmas.Str.Pattern.{split_once_first}
use Rattle.recorded.specs.Lines.{left, text_of}
use Rattle.recorded.proofs.Cut.{cut_some, cut_none}
use Rattle.recorded.proofs.words.Words.word.Goals as goal

pub returns-in-Some : goal.returns-in-Some
returns-in-Some c =
    let line = c.in_ok-rest.rest.now in
    let f = split_once_first 32 line c.split_once.result (search rules) (search rules) in
    let g = rw c.in-Some.is at f in
    cut_some line (left c.args.self.now) c.in-Some.word.now c.in-Some.after.now (ap text_of c.in_ok-rest.ensures.ok_part) g.0 g.1 g.2

pub returns-in-None : goal.returns-in-None
returns-in-None c =
    let line = c.in_ok-rest.rest.now in
    let f = split_once_first 32 line c.split_once.result (search rules) (search rules) in
    let g = rw c.in-None.is at f in
    cut_none line (left c.args.self.now) (ap text_of c.in_ok-rest.ensures.ok_part) g
