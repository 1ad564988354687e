use Rattle.std.proofs.Common.{ap}
use Rattle.fcg_partial.specs.declared.row.MethodRow.{MethodRow}
use Rattle.fcg_join.proofs.MethodRows.{own_there}
use Rattle.fcg_join.proofs.methods.flags_of_method.Goals as goal

pub returns : goal.returns
returns c = λ m a. ap (λ (r : MethodRow). r.flags) (c.load_method.ensures.row m (own_there c.args.parts.now c.args.at m a c.index-parts-at.result c.index-parts-at.is))
