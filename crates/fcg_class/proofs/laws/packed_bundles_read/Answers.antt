use Rattle.fcg_class.proofs.PackFaults.{packed_faults}
use Rattle.fcg_class.proofs.PackLaws.{packed_read, packed_only}
use Rattle.fcg_class.proofs.laws.packed_bundles_read.Goals as goal

pub returns-clause-read : goal.returns-clause-read
returns-clause-read c = λ told folder entries are reads holds few. packed_read told folder entries are reads holds few

pub returns-clause-only : goal.returns-clause-only
returns-clause-only c = λ told folder entries are views content. packed_only told folder entries are views content

pub returns-clause-faults : goal.returns-clause-faults
returns-clause-faults c = λ told folder entries are fits f e. packed_faults told folder entries are fits f e
