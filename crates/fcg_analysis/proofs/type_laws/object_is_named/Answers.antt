use Rattle.fcg_analysis.proofs.ChainWalks.{object_by_name}
use Rattle.fcg_analysis.proofs.type_laws.object_is_named.Goals as goal

pub returns : goal.returns
returns c = object_by_name
