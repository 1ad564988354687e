use Rattle.std.proofs.Common.{◌<◌, ℕ, subst}
use Rattle.fcg_partial.specs.Views.{graph_of, shown_method}
use Rattle.fcg_partial.proofs.ShownLaws.{item_at, made_more, made_all}
use Rattle.fcg_partial.proofs.shown.make_methods.Goals as goal

pub make_method-requires-clause-there : goal.make_method-requires-clause-there
make_method-requires-clause-there c =
    let h = c.requires.there in
    let lt = subst (λ (n : ℕ). c.loop-k.k < n) (c.requires.count h.0 h.1) c.loop-k-test.true in
    let y = item_at h.0.methods c.loop-k.k lt in
    (y.0, (h.0, h.1, y.1))

pub loop-k-preserved : goal.loop-k-preserved
loop-k-preserved c = λ x h. (
    let lt = subst (λ (n : ℕ). c.loop-k.k < n) (c.requires.count x h) c.loop-k-test.true in
    let y = item_at x.methods c.loop-k.k lt in
    made_more (shown_method (graph_of c.args.graph.now)) x.methods c.loop-k.k y.0 _ c.loop-k.methods.items _ y.1 (c.loop-k.invariant x h) c.in_ok-push.ensures.items (c.in_ok-make_method.ensures y.0 (x, h, y.1)))

pub returns : goal.returns
returns c = λ x h. made_all (shown_method (graph_of c.args.graph.now)) x.methods c.args.count c.loop-k.k c.loop-k.methods.items (c.requires.count x h) c.loop-k-test.false (c.loop-k.invariant x h)
