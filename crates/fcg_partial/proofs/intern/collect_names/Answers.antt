use Rattle.std.proofs.Common.{◌≡◌, ℕ, List, subst}
use Rattle.std.specs.Prelude.{IfOk}
use Rattle.fcg_partial.proofs.NumberedLaws.{listed_names}
use Rattle.fcg_partial.proofs.intern.collect_names.Goals as goal

pub returns-in-Some : goal.returns-in-Some
returns-in-Some c = subst (λ (all : List (List ℕ)). IfOk c.collect_listed.result (λ names. names ≡ all)) (listed_names c.args.views.now c.in-Some.lists.now c.in-Some.ensures) c.collect_listed.ensures
