use Rattle.fcg_analysis.proofs.MeetLaws.{by_receivers}
use Rattle.fcg_analysis.proofs.edge_laws.dispatched_by_receivers.Goals as goal

pub returns : goal.returns
returns c = by_receivers
