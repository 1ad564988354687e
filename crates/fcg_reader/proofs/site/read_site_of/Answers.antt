use Rattle.std.proofs.Common.{rules}
use Rattle.fcg_classfile.specs.Breaks.Code.{site_of}
use Rattle.fcg_reader.proofs.site.read_site_of.Goals as goal

pub returns-clause-value : goal.returns-clause-value
unfolding site_of
returns-clause-value c = search rules
