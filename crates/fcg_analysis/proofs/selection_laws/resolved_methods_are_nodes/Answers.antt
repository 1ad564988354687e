use Rattle.fcg_analysis.proofs.General.Members.{Contains-from_IsIn}
use Rattle.fcg_analysis.proofs.ResolvedLaws.{resolved_of}
use Rattle.fcg_analysis.proofs.selection_laws.resolved_methods_are_nodes.Goals as goal

pub returns : goal.returns
returns c = λ types r m e. (let k = resolved_of types r m e in (Contains-from_IsIn _ m k.0, k.1))
