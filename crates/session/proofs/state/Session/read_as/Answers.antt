use Rattle.std.proofs.Common.{ap, ◌∙◌, rules}
use Rattle.std.proofs.lemmas.Result.{err_from_is_err_and}
use Rattle.rows.specs.Dues.{read_as}
use Rattle.session.proofs.Shows.{fault_at, raw_is, typed_is}
use Rattle.session.proofs.state.Session.read_as.Goals as goal

pub returns-in_err-read : goal.returns-in_err-read
returns-in_err-read g c =
    let p = err_from_is_err_and c.from_residual.result c.from_residual.ensures.1 in
    let reads = g.T.FromSql.reads in let k = c.args.column in
    let e = c.in_err-read.ensures in
    record { exact = rw (p.1, p.2) (ap (read_as reads k) e.exact); row = λ sound holds q. rw (p.1, p.2) (ap (read_as reads k) (e.row sound holds q)) }

pub returns : goal.returns
returns g c =
    let reads = g.T.FromSql.reads in let k = c.args.column in
    let o = c.in_ok-read.field-0 in
    let e = c.in_ok-read.ensures in
    let raw = raw_is _ (λ v y h. search rules) o c.map-value.result c.map-value.ensures.cases in
    let at = fault_at k _ (λ f y h. search rules) c.from_nullable_sql.result c.map_err.result c.map_err.ensures.cases in
    let is = at ∙ typed_is reads k o c.map-value.result c.from_nullable_sql.result raw c.from_nullable_sql.ensures in
    record { exact = is ∙ ap (read_as reads k) e.exact; row = λ sound holds p. is ∙ ap (read_as reads k) (e.row sound holds p) }
