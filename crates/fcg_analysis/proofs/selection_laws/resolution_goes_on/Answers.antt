use Rattle.std.proofs.Common.{ap}
use Rattle.fcg_analysis.specs.NamesAndFlags.{found_in}
use Rattle.fcg_analysis.specs.Nodes.{declared}
use Rattle.fcg_analysis.proofs.ChainLaws.{chain_goes_on}
use Rattle.fcg_analysis.proofs.ResolvedLaws.{own_is_found}
use Rattle.fcg_analysis.proofs.selection_laws.resolution_goes_on.Goals as goal

pub returns-clause-own : goal.returns-clause-own
returns-clause-own c = own_is_found

pub returns-clause-on : goal.returns-clause-on
returns-clause-on c = λ types a t s k. ap (found_in (declared types s)) (chain_goes_on types a t k)
