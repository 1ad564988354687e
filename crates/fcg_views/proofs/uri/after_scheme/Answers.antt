use Rattle.std.proofs.Common.{rules}
use Rattle.fcg_views.proofs.uri.after_scheme.Goals as goal

pub returns-in-Some-clause-value : goal.returns-in-Some-clause-value
returns-in-Some-clause-value c = search rules
