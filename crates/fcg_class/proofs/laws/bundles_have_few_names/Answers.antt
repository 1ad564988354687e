use Rattle.fcg_class.proofs.FitLaws.{content_named}
use Rattle.fcg_class.proofs.laws.bundles_have_few_names.Goals as goal

pub returns : goal.returns
returns c = λ bytes views content. content_named bytes views content
