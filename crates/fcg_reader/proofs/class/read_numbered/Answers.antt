use Rattle.std.proofs.Common.{subst, arith}
use Rattle.fcg_grammar.specs.Reading.{Gives}
use Rattle.fcg_classfile.proofs.ClassLaws.{is_found, class_only}
use Rattle.fcg_reader.proofs.ViewLemmas.{is_valid}
use Rattle.fcg_reader.proofs.class.read_numbered.Goals as goal

pub returns-clause-found : goal.returns-clause-found
returns-clause-found c = is_found c.args.bytes.now c.read_whole.result (λ i. omega (arith, c.type_inv.bytes i)) c.read_whole.ensures

pub returns-clause-only : goal.returns-clause-only
returns-clause-only c = λ view reads. subst (λ f. Gives (λ v. v) c.read_whole.result f) (class_only c.args.bytes.now view (λ i. omega (arith, c.type_inv.bytes i)) reads) c.read_whole.ensures

pub returns-clause-valid : goal.returns-clause-valid
returns-clause-valid c = is_valid c.args.bytes.now c.read_whole.result (λ i. omega (arith, c.type_inv.bytes i)) c.read_whole.ensures
