use Rattle.fcg_classfile.proofs.FaultLaws.{pool_broken}
use Rattle.fcg_classfile.proofs.laws.first_fault_of_pool.Goals as goal

pub returns : goal.returns
returns c = λ bytes at f fits e. pool_broken bytes fits at f e
