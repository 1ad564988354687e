use Rattle.fcg_classfile.proofs.TableLaws.{pool_holds}
use Rattle.fcg_classfile.proofs.laws.pools_hold_constants.Goals as goal

pub returns : goal.returns
returns c = λ bytes at pool after fits e. pool_holds bytes fits at (pool, after) e
