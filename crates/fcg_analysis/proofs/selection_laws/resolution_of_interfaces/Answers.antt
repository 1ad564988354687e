use Rattle.std.proofs.Common.{refl}
use Rattle.std.specs.Prelude.{Some, None}
use Rattle.fcg_analysis.specs.Declarations.{signature_in}
use Rattle.fcg_analysis.specs.Nodes.{one_default, first_super_method}
use Rattle.fcg_analysis.specs.Resolution.{public_of_object}
use Rattle.fcg_analysis.proofs.ResolvedLaws.{of_interface_by}
use Rattle.fcg_analysis.proofs.SuperMethods.{none_of_none}
use Rattle.fcg_analysis.proofs.selection_laws.resolution_of_interfaces.Goals as goal

pub returns-clause-own : goal.returns-clause-own
returns-clause-own c = λ types r t m o k e. of_interface_by types r t o k (Some m) (public_of_object types (signature_in r)) (one_default types t (signature_in r)) (first_super_method types t (signature_in r)) e refl refl refl

pub returns-clause-of_object : goal.returns-clause-of_object
returns-clause-of_object c = λ types r t m o k e f. of_interface_by types r t o k None (Some m) (one_default types t (signature_in r)) (first_super_method types t (signature_in r)) e f refl refl

pub returns-clause-by_default : goal.returns-clause-by_default
returns-clause-by_default c = λ types r t m o k e f g. of_interface_by types r t o k None None (Some m) (first_super_method types t (signature_in r)) e f g refl

pub returns-clause-of_first : goal.returns-clause-of_first
returns-clause-of_first c = λ types r t m o k e f g h. of_interface_by types r t o k None None None (Some m) e f g h

pub returns-clause-none : goal.returns-clause-none
returns-clause-none c = λ types r t o k e f h. of_interface_by types r t o k None None None None e f (none_of_none types t (signature_in r) h) h
