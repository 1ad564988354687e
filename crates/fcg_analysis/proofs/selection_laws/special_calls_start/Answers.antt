use Rattle.fcg_analysis.proofs.SpecialLaws.{at_superclass, no_superclass, no_interface, other_name, at_name}
use Rattle.fcg_analysis.proofs.selection_laws.special_calls_start.Goals as goal

pub returns-clause-at_superclass : goal.returns-clause-at_superclass
returns-clause-at_superclass c = at_superclass

pub returns-clause-none : goal.returns-clause-none
returns-clause-none c = no_superclass

pub returns-clause-by_interface_ref : goal.returns-clause-by_interface_ref
returns-clause-by_interface_ref c = no_interface

pub returns-clause-other : goal.returns-clause-other
returns-clause-other c = other_name

pub returns-clause-at_name : goal.returns-clause-at_name
returns-clause-at_name c = at_name
