use Rattle.std.proofs.Common.{◌∙◌}
use Rattle.fcg_partial.proofs.ShownLaws.{views_again}
use Rattle.fcg_partial.proofs.graph.PartialGraph.views.Goals as goal

pub returns : goal.returns
returns c = views_again c.args.self.now c.from.result (c.from.ensures ∙ c.in_ok-views.ensures)
