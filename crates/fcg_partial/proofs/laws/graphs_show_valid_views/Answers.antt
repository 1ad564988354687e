use Rattle.fcg_partial.proofs.ValidLaws.{valid_views}
use Rattle.fcg_partial.proofs.SizeLaws.{has_at_most}
use Rattle.fcg_partial.proofs.laws.graphs_show_valid_views.Goals as goal

pub returns-clause-valid : goal.returns-clause-valid
returns-clause-valid c = λ g is. valid_views g is

pub returns-clause-few : goal.returns-clause-few
returns-clause-few c = λ views. has_at_most views
