use Rattle.std.proofs.Common.{ap, ◌∙◌}
use Rattle.fcg_partial.specs.Views.{text_of}
use Rattle.fcg_partial.proofs.KeptLaws.{kept_text}
use Rattle.fcg_partial.proofs.graph.PartialGraph.as_bytes.Goals as goal

pub returns : goal.returns
returns c = c.as_slice.ensures.value ∙ kept_text c.self.inside.bytes.items c.self.inside.index c.self.invariant ∙ ap text_of c.self.view_is
