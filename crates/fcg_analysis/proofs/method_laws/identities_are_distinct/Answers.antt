use Rattle.fcg_analysis.proofs.NodeMembers.{single, identity_is_one}
use Rattle.fcg_analysis.proofs.method_laws.identities_are_distinct.Goals as goal

pub returns-clause-of_valid_views : goal.returns-clause-of_valid_views
returns-clause-of_valid_views c = single

pub returns-clause-distinct : goal.returns-clause-distinct
returns-clause-distinct c = identity_is_one
