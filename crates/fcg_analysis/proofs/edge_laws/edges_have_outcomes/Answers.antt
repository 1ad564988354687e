use Rattle.fcg_analysis.proofs.MeetLaws.{none_without_call, none_of_failed, meets_of_class, meets_of_kind}
use Rattle.fcg_analysis.proofs.edge_laws.edges_have_outcomes.Goals as goal

pub returns-clause-no_call : goal.returns-clause-no_call
returns-clause-no_call c = none_without_call

pub returns-clause-of_failure : goal.returns-clause-of_failure
returns-clause-of_failure c = none_of_failed

pub returns-clause-of_class : goal.returns-clause-of_class
returns-clause-of_class c = meets_of_class

pub returns-clause-of_kind : goal.returns-clause-of_kind
returns-clause-of_kind c = meets_of_kind
