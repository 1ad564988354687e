use Rattle.std.specs.Prelude.{None}
use Rattle.fcg_analysis.proofs.ResolvedLaws.{mismatch_is, of_owner, phantom_has_gap, absent_has_none, absent_has_object}
use Rattle.fcg_analysis.proofs.selection_laws.outcomes_have_causes.Goals as goal

pub returns-clause-mismatch : goal.returns-clause-mismatch
returns-clause-mismatch c = mismatch_is

pub returns-clause-unknown : goal.returns-clause-unknown
returns-clause-unknown c = λ types r e n. of_owner types r None e n

pub returns-clause-phantom : goal.returns-clause-phantom
returns-clause-phantom c = phantom_has_gap

pub returns-clause-absent : goal.returns-clause-absent
returns-clause-absent c = absent_has_none

pub returns-clause-of_object : goal.returns-clause-of_object
returns-clause-of_object c = absent_has_object
