use Rattle.fcg_classfile.proofs.ValidLaws.{reads_valid}
use Rattle.fcg_classfile.proofs.laws.class_files_are_valid.Goals as goal

pub returns : goal.returns
returns c = λ bytes v reads. reads_valid bytes v reads
