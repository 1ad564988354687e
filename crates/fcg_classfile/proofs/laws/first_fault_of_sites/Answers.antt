use Rattle.std.proofs.Common.{◌+◌, length, arith}
use Rattle.fcg_classfile.proofs.FaultLaws.{fills}
use Rattle.fcg_classfile.proofs.SiteLaws.{all_broken}
use Rattle.fcg_classfile.proofs.laws.first_fault_of_sites.Goals as goal

pub returns : goal.returns
returns c = λ pool constants begin code count f holds fits few e.
    let b = all_broken pool constants holds begin code fits (1 + length code) 0 count f (omega arith) (omega arith) few e in
    record { before = b.before; found = b.found; pc = b.at; fills = fills code 0 _ b.at b.stands; fits = b.fits; are = b.are; few = b.few; within = b.within; broken = b.broken }
