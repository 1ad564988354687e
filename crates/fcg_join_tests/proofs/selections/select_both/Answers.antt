use Rattle.fcg_select.proofs.Selecting.{instance_by_names}
use Rattle.fcg_join_tests.proofs.selections.select_both.Goals as goal

pub select_as-numbered-requires-clause-method : goal.select_as-numbered-requires-clause-method
select_as-numbered-requires-clause-method c = instance_by_names _ _ _ _ c.signature.ensures.value (c.is_instance_of.ensures.0 c.if-not-is_instance_of.false)
