use Rattle.fcg_select.proofs.Selecting.{instance_told}
use Rattle.fcg_select.proofs.selection.is_instance_of.Goals as goal

pub returns-in-Method : goal.returns-in-Method
returns-in-Method c = instance_told _ _ _ _ _ c.in-Method.is c.requires c.is_instance_with.ensures
