use Rattle.fcg_select.proofs.Selecting.{instance_by_names}
use Rattle.fcg_select.proofs.selection.select.Goals as goal

pub select_as-requires-clause-method : goal.select_as-requires-clause-method
select_as-requires-clause-method c = instance_by_names _ _ _ _ c.signature.ensures.value c.requires.method
