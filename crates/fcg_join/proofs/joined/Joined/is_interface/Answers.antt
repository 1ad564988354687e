use Rattle.std.proofs.Common.{ap, ◌∙◌}
use Rattle.fcg_analysis.specs.NamesAndFlags.{has}
use Rattle.fcg_join.specs.declared.heads.TypeHead.{TypeHead}
use Rattle.fcg_join.proofs.joined.Joined.is_interface.Goals as goal

pub returns : goal.returns
returns c = λ x h. c.is_interface.ensures ∙ ap (λ (g : TypeHead). has 0x0200 g.flags) (c.head.ensures.value x h).head_is
