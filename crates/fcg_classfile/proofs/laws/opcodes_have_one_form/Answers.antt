use Rattle.fcg_classfile.proofs.InstructionLaws.{table_is_whole, form_up_to}
use Rattle.fcg_classfile.proofs.laws.opcodes_have_one_form.Goals as goal

pub returns-clause-rows : goal.returns-clause-rows
returns-clause-rows c = λ op lt. table_is_whole op lt

pub returns-clause-form : goal.returns-clause-form
returns-clause-form c = λ op lt. form_up_to op lt
