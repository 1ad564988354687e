use Rattle.fcg_analysis.specs.Selection.{can_override}
use Rattle.fcg_analysis.specs.Types.{chain}
use Rattle.fcg_analysis.proofs.SearchLaws.{search_is_first, first_is_searched}
use Rattle.fcg_analysis.proofs.selection_laws.selected_from_declarers.Goals as goal

pub returns : goal.returns
returns c = λ types d s t a b. (search_is_first types (λ n. can_override types n a) (chain types t) b, first_is_searched types d s t a b)
