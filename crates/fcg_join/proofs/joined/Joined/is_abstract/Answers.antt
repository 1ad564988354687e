use Rattle.std.proofs.Common.{ap, ◌∙◌}
use Rattle.fcg_analysis.specs.NamesAndFlags.{has}
use Rattle.fcg_join.proofs.joined.Joined.is_abstract.Goals as goal

pub returns : goal.returns
returns c = λ n h. c.has_flag.ensures ∙ ap (has 0x0400) (c.method_flags.ensures n h)
