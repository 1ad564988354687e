use Rattle.std.proofs.Common.{take, All}
use Rattle.fcg_views.specs.NamesIn.{names_in}
use Rattle.fcg_partial.specs.Internal.Written.{written_type}
use Rattle.fcg_partial.specs.SmallNumbers.{IsSmallView}
use Rattle.fcg_partial.proofs.NumberedLaws.{IsSoFar}
use Rattle.fcg_partial.proofs.write.push_types.Given as goal

abbrev pub invariant-loop-view : goal.invariant-loop-view
invariant-loop-view l = record {
  text : IsSoFar names_in (λ names. written_type names l.refs) l.views l.view-index l.fn.out.items l.out.items l.fn.numbers l.numbers;
  small : All IsSmallView (take l.view-index l.views);
}
