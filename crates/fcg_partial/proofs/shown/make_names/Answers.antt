use Rattle.fcg_partial.specs.Views.{graph_of}
use Rattle.fcg_partial.proofs.ShownLaws.{taken_more}
use Rattle.fcg_partial.proofs.shown.make_names.Goals as goal

pub loop-n-preserved : goal.loop-n-preserved
loop-n-preserved c = taken_more (graph_of c.args.graph.now).names c.loop-n.n c.name_at.result.now _ c.loop-n.names.items _ c.name_at.ensures c.loop-n.invariant c.in_ok-push.ensures.items c.in_ok-from_slice.ensures
