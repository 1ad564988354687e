use Rattle.fcg_join.specs.Joined.{signature}
use Rattle.fcg_join.proofs.joined.Joined.declared.Goals as goal

pub returns-clause-value : goal.returns-clause-value
returns-clause-value c = λ x h. c.declared_as.ensures.value x (signature c.args.name.now c.args.desc.now) h c.signature.ensures.value
