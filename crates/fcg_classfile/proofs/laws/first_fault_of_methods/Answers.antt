use Rattle.fcg_classfile.proofs.FaultLaws.{methods_broken}
use Rattle.fcg_classfile.proofs.laws.first_fault_of_methods.Goals as goal

pub returns : goal.returns
returns c = λ pool constants at f fits holds e. methods_broken pool fits constants holds at f e
