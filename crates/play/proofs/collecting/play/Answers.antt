use Rattle.std.proofs.Common.{length, vec_items, ◌∙◌}
use Rattle.play.proofs.Collects.{kept, kept_lawful, few, all, past, untouched, let_go}
use Rattle.play.proofs.collecting.play.Goals as goal

pub returns : goal.returns
returns g c =
    let means = g.H.Host.meaning in
    let s = c.new-session.result in let s' = c.play_to-slip.new.session in
    let a = c.args.arena.now in let a' = c.play_to-slip.new.arena in
    let l' = c.play_to-slip.new.listener in
    let calls = c.args.calls.now in
    let e = c.new-session.ensures in
    let w = c.play_to-slip.ensures in
    record {
      host = c.close.ensures ∙ let_go means c.args.host calls s s' a a' c.play_to-slip.result e.unopened e.host (λ x. vec_items x.answers) (λ x. x.ended) _ l' c.new.ensures.items w;
      lawful = kept_lawful (means c.args.host) (length a) calls (vec_items l'.answers) l'.ended (kept means c.args.host calls s s' a a' c.play_to-slip.result e.unopened e.host (λ x. vec_items x.answers) (λ x. x.ended) _ l' c.new.ensures.items w);
      few = few means c.args.host calls s s' a a' c.play_to-slip.result e.unopened e.host (λ x. vec_items x.answers) (λ x. x.ended) _ l' c.new.ensures.items w;
      all = all means c.args.host calls s s' a a' c.play_to-slip.result e.unopened e.host (λ x. vec_items x.answers) (λ x. x.ended) _ l' c.new.ensures.items w;
      past = past means c.args.host calls s s' a a' c.play_to-slip.result e.unopened e.host (λ x. vec_items x.answers) (λ x. x.ended) _ l' c.new.ensures.items w;
      untouched = untouched means c.args.host calls s s' a a' c.play_to-slip.result e.unopened e.host (λ x. vec_items x.answers) (λ x. x.ended) _ l' c.new.ensures.items w;
    }
