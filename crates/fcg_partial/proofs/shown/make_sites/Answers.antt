use Rattle.std.proofs.Common.{◌<◌, ℕ, subst}
use Rattle.fcg_partial.specs.Views.{graph_of, shown_site}
use Rattle.fcg_partial.proofs.ShownLaws.{item_at, made_more, made_all}
use Rattle.fcg_partial.proofs.shown.make_sites.Goals as goal

pub make_site-requires-clause-there : goal.make_site-requires-clause-there
make_site-requires-clause-there c =
    let h = c.requires.there in
    let lt = subst (λ (n : ℕ). c.loop-s.s < n) (c.requires.count h.0 h.1) c.loop-s-test.true in
    let y = item_at h.0.sites c.loop-s.s lt in
    (y.0, (h.0, h.1, y.1))

pub loop-s-preserved : goal.loop-s-preserved
loop-s-preserved c = λ x h. (
    let lt = subst (λ (n : ℕ). c.loop-s.s < n) (c.requires.count x h) c.loop-s-test.true in
    let y = item_at x.sites c.loop-s.s lt in
    made_more (shown_site (graph_of c.args.graph.now)) x.sites c.loop-s.s y.0 _ c.loop-s.sites.items _ y.1 (c.loop-s.invariant x h) c.in_ok-push.ensures.items (c.in_ok-make_site.ensures y.0 (x, h, y.1)))

pub returns : goal.returns
returns c = λ x h. made_all (shown_site (graph_of c.args.graph.now)) x.sites c.args.count c.loop-s.s c.loop-s.sites.items (c.requires.count x h) c.loop-s-test.false (c.loop-s.invariant x h)
