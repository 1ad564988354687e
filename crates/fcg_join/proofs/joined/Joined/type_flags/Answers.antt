use Rattle.std.proofs.Common.{ap}
use Rattle.fcg_join.specs.declared.heads.TypeHead.{TypeHead}
use Rattle.fcg_join.proofs.joined.Joined.type_flags.Goals as goal

pub returns : goal.returns
returns c = λ x h. ap (λ (g : TypeHead). g.flags) (c.head.ensures.value x h).head_is
