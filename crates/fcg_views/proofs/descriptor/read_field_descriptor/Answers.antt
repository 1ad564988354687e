use Rattle.std.proofs.Common.{rules}
use Rattle.std.specs.Prelude.{Ok, Err}
use Rattle.fcg_views.proofs.DescLaws.{field_found_by, field_breaks_by, field_test_by}
use Rattle.fcg_views.proofs.descriptor.read_field_descriptor.Goals as goal

pub returns-then-begins_with_void-clause-breaks : goal.returns-then-begins_with_void-clause-breaks
returns-then-begins_with_void-clause-breaks c = field_breaks_by c.args.text.now (Err c.fault_at.result) (search rules)

pub returns-then-begins_with_void-clause-test : goal.returns-then-begins_with_void-clause-test
returns-then-begins_with_void-clause-test c = field_test_by c.args.text.now (Err c.fault_at.result) (search rules)

pub returns-in_err-read_from-clause-breaks : goal.returns-in_err-read_from-clause-breaks
returns-in_err-read_from-clause-breaks c = field_breaks_by c.args.text.now c.from_residual.result (search rules)

pub returns-in_err-read_from-clause-test : goal.returns-in_err-read_from-clause-test
returns-in_err-read_from-clause-test c = field_test_by c.args.text.now c.from_residual.result (search rules)

pub returns-clause-found : goal.returns-clause-found
returns-clause-found c = field_found_by c.args.text.now (Ok tt) (search rules)

pub returns-clause-test : goal.returns-clause-test
returns-clause-test c = field_test_by c.args.text.now (Ok tt) (search rules)
