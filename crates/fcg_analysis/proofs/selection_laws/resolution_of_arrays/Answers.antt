use Rattle.std.proofs.Common.{ap, ◌∙◌}
use Rattle.std.specs.Prelude.{Some, None}
use Rattle.fcg_analysis.specs.Resolution.{found_or, Failed, NoSuchMethod}
use Rattle.fcg_analysis.proofs.ResolvedLaws.{array_mismatch, array_by}
use Rattle.fcg_analysis.proofs.selection_laws.resolution_of_arrays.Goals as goal

pub returns-clause-mismatch : goal.returns-clause-mismatch
returns-clause-mismatch c = array_mismatch

pub returns-clause-unknown : goal.returns-clause-unknown
returns-clause-unknown c = λ types r e k p. array_by types r None e k p

pub returns-clause-own : goal.returns-clause-own
returns-clause-own c = λ types r o m e k p d. array_by types r (Some o) e k p ∙ ap (found_or (Failed NoSuchMethod)) d

pub returns-clause-absent : goal.returns-clause-absent
returns-clause-absent c = λ types r o e k p d. array_by types r (Some o) e k p ∙ ap (found_or (Failed NoSuchMethod)) d
