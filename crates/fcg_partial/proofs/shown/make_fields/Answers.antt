use Rattle.std.proofs.Common.{◌<◌, ℕ, subst}
use Rattle.fcg_partial.specs.Views.{graph_of, shown_field}
use Rattle.fcg_partial.proofs.ShownLaws.{item_at, made_more, made_all}
use Rattle.fcg_partial.proofs.shown.make_fields.Goals as goal

pub make_field-requires-clause-there : goal.make_field-requires-clause-there
make_field-requires-clause-there c =
    let h = c.requires.there in
    let lt = subst (λ (n : ℕ). c.loop-j.j < n) (c.requires.count h.0 h.1) c.loop-j-test.true in
    let y = item_at h.0.fields c.loop-j.j lt in
    (y.0, (h.0, h.1, y.1))

pub loop-j-preserved : goal.loop-j-preserved
loop-j-preserved c = λ x h. (
    let lt = subst (λ (n : ℕ). c.loop-j.j < n) (c.requires.count x h) c.loop-j-test.true in
    let y = item_at x.fields c.loop-j.j lt in
    made_more (shown_field (graph_of c.args.graph.now)) x.fields c.loop-j.j y.0 _ c.loop-j.fields.items _ y.1 (c.loop-j.invariant x h) c.in_ok-push.ensures.items (c.in_ok-make_field.ensures y.0 (x, h, y.1)))

pub returns : goal.returns
returns c = λ x h. made_all (shown_field (graph_of c.args.graph.now)) x.fields c.args.count c.loop-j.j c.loop-j.fields.items (c.requires.count x h) c.loop-j-test.false (c.loop-j.invariant x h)
