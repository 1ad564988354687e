use Rattle.fcg_classfile.proofs.FaultLaws.{fills}
use Rattle.fcg_classfile.proofs.InstructionLaws.{code_broken}
use Rattle.fcg_classfile.proofs.laws.first_fault_of_code.Goals as goal

pub returns : goal.returns
returns c = λ code f fits e.
    let b = code_broken code f fits e in
    record { before = b.before; fills = fills code 0 _ f.0 b.stands; fits = b.fits; within = b.within; broken = b.broken }
