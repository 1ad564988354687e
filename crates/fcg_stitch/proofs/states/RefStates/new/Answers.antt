use Rattle.std.proofs.Common.{List, length, replicate, ap, ◌∙◌}
use Rattle.std.specs.Prelude.{Option, None}
use Rattle.fcg_partial.specs.Views.{graph_of}
use Rattle.fcg_join.proofs.CollectedLaws.{mapped_all}
use Rattle.fcg_stitch.specs.declared.states.RefState.{RefState}
use Rattle.fcg_stitch.specs.Internal.Rows.{state_at}
use Rattle.fcg_stitch.proofs.StateLaws.{none_known}
use Rattle.fcg_stitch.proofs.states.RefStates.new.Goals as goal

pub returns-clause-none : goal.returns-clause-none
returns-clause-none c = λ i r. (
    ap (λ (states : List (List (Option RefState))). state_at states i r) (mapped_all (λ p. replicate (length (graph_of p.views).refs) None) c.args.parts.now c.loop-part.part-index _ c.loop-part-test.false c.loop-part.invariant)
    ∙ none_known c.args.parts.now i r)
