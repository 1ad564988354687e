use Rattle.fcg_views.proofs.DescBreaks.{found_by, breaks_by}
use Rattle.fcg_views.proofs.descriptor.read_descriptor.Goals as goal

pub returns-clause-found : goal.returns-clause-found
returns-clause-found c = found_by c.args.text.now c.read_from.result c.read_from.ensures

pub returns-clause-breaks : goal.returns-clause-breaks
returns-clause-breaks c = breaks_by c.args.text.now c.read_from.result c.read_from.ensures
