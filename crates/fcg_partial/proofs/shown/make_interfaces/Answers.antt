use Rattle.std.proofs.Common.{◌<◌, ℕ, subst}
use Rattle.fcg_partial.specs.Views.{graph_of, name_in}
use Rattle.fcg_partial.proofs.ShownLaws.{item_at, made_more, made_all}
use Rattle.fcg_partial.proofs.shown.make_interfaces.Goals as goal

pub make_interface-requires-clause-there : goal.make_interface-requires-clause-there
make_interface-requires-clause-there c =
    let h = c.requires.there in
    let lt = subst (λ (n : ℕ). c.loop-j.j < n) (c.requires.count h.0 h.1) c.loop-j-test.true in
    let y = item_at h.0.interfaces c.loop-j.j lt in
    (y.0, (h.0, h.1, y.1))

pub loop-j-preserved : goal.loop-j-preserved
loop-j-preserved c = λ x h. (
    let lt = subst (λ (n : ℕ). c.loop-j.j < n) (c.requires.count x h) c.loop-j-test.true in
    let y = item_at x.interfaces c.loop-j.j lt in
    made_more (name_in (graph_of c.args.graph.now).names) x.interfaces c.loop-j.j y.0 _ c.loop-j.interfaces.items _ y.1 (c.loop-j.invariant x h) c.in_ok-push.ensures.items (c.in_ok-make_interface.ensures y.0 (x, h, y.1)))

pub returns : goal.returns
returns c = λ x h. made_all (name_in (graph_of c.args.graph.now).names) x.interfaces c.args.count c.loop-j.j c.loop-j.interfaces.items (c.requires.count x h) c.loop-j-test.false (c.loop-j.invariant x h)
