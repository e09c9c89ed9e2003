use Rattle.std.proofs.Common.{◌≡◌, ℕ, ◌<◌, Bool, cond, List, length, get_or, Some, sym, ap, ◌∙◌, subst}
use Rattle.host.specs.declared.records.BindRecord.{BindRecord}
use Rattle.host.specs.Meanings.{Meaning}
use Rattle.host.specs.Calls.{no_bind, no_report, field_of}
use Rattle.host.specs.Wholes.{Whole}
use Rattle.host.proofs.Truncation.{whole_row}
use Rattle.host.proofs.whole.fetch_whole.Goals as goal

pub returns-in-Row-clause-whole : goal.returns-in-Row-clause-whole
returns-in-Row-clause-whole g c = λ _.
    let m = g.H.Host.meaning c.args.host.now in
    let ps = c.args.places.now in
    let w = c.in-Row.ensures in
    let e = c.if-bind.ensures.after in
    let b : Some ps ≡ Some w.places = ap (λ (t : Bool). cond t (Some ps) m.bound) c.if-bind.ensures.granted ∙ sym (ap (λ (x : Meaning). x.bound) e) ∙ w.bound in
    let q : w.places ≡ ps = cc in
    let P : List BindRecord → Type 0 = λ xs. (k : ℕ) → k < length xs → Whole (field_of w.fields k (get_or xs k no_bind)) (get_or xs k no_bind) (get_or c.fetch.new.reports k no_report) c.fetch.new.arena in
    record {
      fields = w.fields;
      rest = w.rest;
      next = sym (ap (λ (x : Meaning). x.coming) e) ∙ w.next;
      whole = subst P q (whole_row w.fields w.places c.fetch.new.reports c.fetch.new.arena w.marked w.reported w.stands);
    }
