use Rattle.std.proofs.Common.{rules}
use Rattle.fcg_reader.proofs.site.form_of.Goals as goal

pub returns : goal.returns
returns c = search rules
