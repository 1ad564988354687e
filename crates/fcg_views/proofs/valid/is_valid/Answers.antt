use Rattle.std.proofs.Common.{rules}
use Rattle.fcg_views.proofs.valid.is_valid.Goals as goal

pub returns-then-has_few_sites : goal.returns-then-has_few_sites
returns-then-has_few_sites c = search rules
