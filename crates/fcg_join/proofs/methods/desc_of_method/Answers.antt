use Rattle.fcg_join.proofs.MethodRows.{own_there}
use Rattle.fcg_join.proofs.methods.desc_of_method.Goals as goal

pub returns : goal.returns
returns c = λ m a. c.method_desc.ensures m (own_there c.args.parts.now c.args.at m a c.index-parts-at.result c.index-parts-at.is)
