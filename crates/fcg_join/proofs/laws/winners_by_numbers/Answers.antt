use Rattle.fcg_grammar.proofs.Among.{among_from_contains}
use Rattle.fcg_analysis.proofs.General.Members.{Contains-from_IsIn}
use Rattle.fcg_join.proofs.Firsts.{first_winners}
use Rattle.fcg_join.proofs.laws.winners_by_numbers.Goals as goal

pub returns : goal.returns
returns c = λ names views h. first_winners names views (λ t i. among_from_contains t.view.name names (h t (Contains-from_IsIn views t i)))
