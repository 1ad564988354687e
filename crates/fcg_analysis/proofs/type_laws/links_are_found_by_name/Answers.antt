use Rattle.fcg_analysis.proofs.NameLaws.{superclass_by_name, interfaces_by_name}
use Rattle.fcg_analysis.proofs.type_laws.links_are_found_by_name.Goals as goal

pub returns-clause-superclass : goal.returns-clause-superclass
returns-clause-superclass c = superclass_by_name

pub returns-clause-interfaces : goal.returns-clause-interfaces
returns-clause-interfaces c = interfaces_by_name
