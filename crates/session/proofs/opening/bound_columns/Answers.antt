use Rattle.std.proofs.Common.{length, Err, sym, ap, ◌∙◌, arith}
use Rattle.rows.specs.Dues.{faulted}
use Rattle.session.proofs.Binds.{so_far_none, so_far_more, refused_here, all_bound}
use Rattle.session.proofs.opening.bound_columns.Goals as goal

pub loop-i-init : goal.loop-i-init
loop-i-init g c =
    let e = c.new-pairs.ensures in
    (ap length e, so_far_none c.args.wanted.now (g.H.Host.meaning c.args.host.now).columns c.new-pairs.result.items e)

pub returns-in-Err : goal.returns-in-Err
returns-in-Err g c =
    let cs = (g.H.Host.meaning c.args.host.now).columns in
    let i = c.loop-i.i in
    refused_here c.args.wanted.now cs i c.loop-i.pairs.items (omega (arith, c.column_count-i-end.ensures)) c.at.result (ap (faulted i) (sym c.in-Err.ensures) ∙ ap Err (sym c.at.ensures)) c.loop-i.invariant.1

pub push-requires : goal.push-requires
push-requires g c =
    let few = (g.H.Host.formed c.args.host.now).few in
    (omega arith, omega (arith, c.loop-i.invariant.0, c.column_count-i-end.ensures))

pub loop-i-preserved : goal.loop-i-preserved
loop-i-preserved g c =
    let cs = (g.H.Host.meaning c.args.host.now).columns in
    let i = c.loop-i.i in
    let more = so_far_more c.args.wanted.now cs i c.loop-i.pairs.items (omega (arith, c.column_count-i-end.ensures)) (c.in-Ok.code, c.in-Ok.flags) (ap (faulted i) (sym c.in-Ok.ensures)) c.loop-i.invariant.1 in
    (c.push.ensures.len ∙ omega (arith, c.loop-i.invariant.0), rw c.push.ensures.items more)

pub returns : goal.returns
returns g c =
    all_bound c.args.wanted.now (g.H.Host.meaning c.args.host.now).columns c.loop-i.pairs.items c.loop-i.i (omega (arith, c.column_count-i-end.ensures)) c.loop-i.invariant.1
