use Rattle.std.proofs.Common.{◌<◌, ℕ, subst}
use Rattle.fcg_partial.specs.Views.{graph_of, shown_type}
use Rattle.fcg_partial.proofs.ShownLaws.{item_at, made_more}
use Rattle.fcg_partial.proofs.shown.make_views.Goals as goal

pub make_view-requires-clause-there : goal.make_view-requires-clause-there
make_view-requires-clause-there c =
    let lt = subst (λ (n : ℕ). c.loop-i.i < n) c.type_count-count.ensures c.loop-i-test.true in
    item_at (graph_of c.args.graph.now).types c.loop-i.i lt

pub loop-i-preserved : goal.loop-i-preserved
loop-i-preserved c =
    let g = graph_of c.args.graph.now in
    let lt = subst (λ (n : ℕ). c.loop-i.i < n) c.type_count-count.ensures c.loop-i-test.true in
    let y = item_at g.types c.loop-i.i lt in
    made_more (shown_type g) g.types c.loop-i.i y.0 _ c.loop-i.views.items _ y.1 c.loop-i.invariant c.in_ok-push.ensures.items (c.in_ok-make_view.ensures y.0 y.1)
