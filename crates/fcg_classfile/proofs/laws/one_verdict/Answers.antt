use Rattle.fcg_classfile.proofs.ClassLaws.{verdict}
use Rattle.fcg_classfile.proofs.laws.one_verdict.Goals as goal

pub returns : goal.returns
returns c = λ bytes fits. verdict bytes fits
