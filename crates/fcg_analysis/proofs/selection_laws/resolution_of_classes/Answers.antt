use Rattle.std.proofs.Common.{refl}
use Rattle.std.specs.Prelude.{Some, None}
use Rattle.fcg_analysis.specs.Declarations.{signature_in}
use Rattle.fcg_analysis.specs.Nodes.{one_default, first_super_method}
use Rattle.fcg_analysis.proofs.ResolvedLaws.{of_class_by}
use Rattle.fcg_analysis.proofs.SuperMethods.{none_of_none}
use Rattle.fcg_analysis.proofs.selection_laws.resolution_of_classes.Goals as goal

pub returns-clause-in_chain : goal.returns-clause-in_chain
returns-clause-in_chain c = λ types r t m o k e. of_class_by types r t o k (Some m) (one_default types t (signature_in r)) (first_super_method types t (signature_in r)) e refl refl

pub returns-clause-by_default : goal.returns-clause-by_default
returns-clause-by_default c = λ types r t m o k e f. of_class_by types r t o k None (Some m) (first_super_method types t (signature_in r)) e f refl

pub returns-clause-of_first : goal.returns-clause-of_first
returns-clause-of_first c = λ types r t m o k e f g. of_class_by types r t o k None None (Some m) e f g

pub returns-clause-none : goal.returns-clause-none
returns-clause-none c = λ types r t o k e g. of_class_by types r t o k None None None e (none_of_none types t (signature_in r) g) g
