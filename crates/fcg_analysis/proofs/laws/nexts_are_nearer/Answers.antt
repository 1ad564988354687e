use Rattle.std.proofs.Common.{◌≡◌, ◌+◌, suc, ap, ◌∙◌, arith}
use Rattle.std.specs.Prelude.{Some}
use Rattle.fcg_analysis.proofs.NextLaws.{next_found, next_is_there, target_is_last}
use Rattle.fcg_analysis.proofs.laws.nexts_are_nearer.Goals as goal

pub returns-clause-nearer : goal.returns-clause-nearer
returns-clause-nearer c = next_found

pub returns-clause-there : goal.returns-clause-there
returns-clause-there c = λ es count target m steps t e n. let s : steps + 1 ≡ suc steps = omega arith in next_is_there es count target m steps t (e ∙ ap Some s) n

pub returns-clause-target : goal.returns-clause-target
returns-clause-target c = target_is_last
