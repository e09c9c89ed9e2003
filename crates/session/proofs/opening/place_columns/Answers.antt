use Rattle.std.proofs.Common.{◌≡◌, ◌≤◌, ◌++◌, length, drop, true, false, Err, sym, refl, ap, ◌∙◌, subst, arith, rules}
use Rattle.std.proofs.lemmas.Result.{err_from_is_err_and}
use Rattle.mysql.specs.declared.fault.Fault.{Fault}
use Rattle.mysql.specs.Faults.{host_failed}
use Rattle.host.specs.Calls.{with_error}
use Rattle.layout.specs.declared.table.ColumnTable.{ColumnTable}
use Rattle.layout.specs.Tables.{end, opening_size, OpeningTable}
use Rattle.layout.proofs.Spans.{end_in_room}
use Rattle.session.specs.Sessions.{error_after, Placed}
use Rattle.session.proofs.Placing.{zeroed_front, kept_behind, granted_due, granted_host, an_error, refused_due, refused_host}
use Rattle.session.proofs.opening.place_columns.Goals as goal

pub returns-in_err-bind_host : goal.returns-in_err-bind_host
returns-in_err-bind_host g c = λ as_many short.
    let m = g.H.Host.meaning c.args.host.now in
    let m' = g.H.Host.meaning c.bind_host.new.host in
    let t = c.open.new.self in
    let n = length c.args.arena.now in
    let pairs = c.args.pairs.now in
    let o : OpeningTable pairs n t = search rules in
    let fits : opening_size pairs ≤ n = omega (arith, o.ends, o.same_room, end_in_room t) in
    let w = c.in_err-bind_host.ensures in
    let after = c.bind_host.ensures.after in
    let f = c.in_err-bind_host.field-0.0 in
    let is : f ≡ host_failed 2036 = w.failed ∙ ap host_failed (an_error m m' pairs n t false o as_many fits w.granted after refl) in
    let p = err_from_is_err_and c.from_residual-in_err-bind_host.result c.from_residual-in_err-bind_host.ensures.1 in
    rw (p.1, p.2)
    (record {
      due = refused_due m m' pairs n t false o as_many fits w.granted after refl ∙ ap Err (sym is);
      host = refused_host m m' pairs n t false o as_many fits w.granted after refl ∙ ap (λ (x : Fault). with_error (error_after x m.error) m) (sym is);
      same_arena = refl;
    })

pub returns : goal.returns
returns g c = λ as_many short.
    let m = g.H.Host.meaning c.args.host.now in
    let m' = g.H.Host.meaning c.bind_host.new.host in
    let t = c.open.new.self in
    let a = c.args.arena.now in
    let n = length a in
    let pairs = c.args.pairs.now in
    let o : OpeningTable pairs n t = search rules in
    let fits : opening_size pairs ≤ n = omega (arith, o.ends, o.same_room, end_in_room t) in
    let w = c.in_ok-bind_host.ensures in
    let after = c.bind_host.ensures.after in
    let same = c.bind_host.ensures.table in
    let ends : c.end.result ≡ end t = c.end.ensures ∙ ap end same in
    let inside : c.end.result ≤ n = omega (arith, ends, o.same_room, end_in_room t) in
    let zeroes = c.fill.ensures.after (λ y e. search rules) in
    subst (λ (u : ColumnTable). Placed m m' pairs u a (c.fill.new.self ++ drop c.end.result a)) (sym same)
    (record {
      due = granted_due m m' pairs n t true o as_many fits w.granted after refl;
      table = o;
      host = granted_host m m' pairs n t true o as_many fits w.granted after refl;
      zeroed = λ p l. zeroed_front a c.fill.new.self c.end.result inside zeroes p (omega (arith, ends));
      others = λ p l. kept_behind a c.fill.new.self c.end.result inside zeroes p (omega (arith, ends));
    })
