use Rattle.std.proofs.Common.{◌≡◌, length, refl, arith, rules}
use Rattle.std.proofs.lemmas.List.{get_or_append_left}
use Rattle.host.specs.Calls.{no_report}
use Rattle.session.specs.Sessions.{session_of}
use Rattle.session.proofs.Fetches.{failure_came, failure_answer, failure_after, row_came, row_got, row_answered, row_after}
use Rattle.session.proofs.state.Opened.populate_row_buffers.Goals as goal

pub returns-in-Failed : goal.returns-in-Failed
returns-in-Failed g c =
    let s = session_of c.args.host.now c.args.self.now c.args.reports.now c.args.spare.now in let a = c.args.arena.now in let p = c.requires in
    let m = g.H.Host.meaning s.host in
    let m' = g.H.Host.meaning c.fetch.new.self in
    let a' = c.fetch.new.arena in
    record {
      answer = λ sound.
          let w = failure_came m s sound a p m' _ c.fetch.new.reports a' (search rules) c.in-Failed.ensures in
          failure_answer m s sound a p m' _ c.fetch.new.reports a' w c.host.result c.error_number.result c.host.ensures c.error_number.ensures;
      after = λ sound.
          let w = failure_came m s sound a p m' _ c.fetch.new.reports a' (search rules) c.in-Failed.ensures in
          failure_after m s sound a p m' _ c.fetch.new.reports a' w _ _ refl refl refl;
    }

pub returns-in-Row : goal.returns-in-Row
returns-in-Row g c =
    let s = session_of c.args.host.now c.args.self.now c.args.reports.now c.args.spare.now in let a = c.args.arena.now in let p = c.requires in
    let m = g.H.Host.meaning s.host in
    let m' = g.H.Host.meaning c.fetch.new.self in
    let a' = c.fetch.new.arena in let rs' = c.fetch.new.reports in
    let o = c.settle.new.self in
    let m'' = g.H.Host.meaning c.settle.new.host in
    let formed = g.H.Host.formed c.fetch.new.self in
    let same : length a' ≡ length a = search rules in
    let came = row_came c.fetch.result m m' _ rs' a a' c.in-Row.is c.fetch.ensures in
    let w = came.1 in
    record {
      answer = λ sound.
          let got = row_got m s sound a p came.0 m' _ rs' a' w formed (search rules) same in
          row_answered m s sound a p came.0 m' _ rs' a' w formed (search rules) same _ o c.settle.new.host rs' c.settle.new.spare m'' c.settle.new.arena refl (λ k l. refl) c.settle.result (c.settle.ensures w.fields got);
      after = λ sound.
          let got = row_got m s sound a p came.0 m' _ rs' a' w formed (search rules) same in
          row_after m s sound a p came.0 m' _ rs' a' w formed (search rules) same _ o c.settle.new.host _ c.settle.new.spare m'' c.settle.new.arena refl (λ k l. get_or_append_left rs' _ no_report k (omega (arith, got.as_many))) c.settle.result (c.settle.ensures w.fields got);
    }
