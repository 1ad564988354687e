use Rattle.std.proofs.Common.{take, All}
use Rattle.fcg_views.specs.NamesIn.{names_of_method}
use Rattle.fcg_partial.specs.Internal.Written.{written_method}
use Rattle.fcg_partial.specs.SmallNumbers.{IsSmallMethod}
use Rattle.fcg_partial.proofs.NumberedLaws.{IsSoFar}
use Rattle.fcg_partial.proofs.write.push_methods.Given as goal

abbrev pub invariant-loop-method : goal.invariant-loop-method
invariant-loop-method l = record {
  text : IsSoFar names_of_method (λ names. written_method names l.refs) l.methods l.method-index l.fn.out.items l.out.items l.fn.numbers l.numbers;
  small : All IsSmallMethod (take l.method-index l.methods);
}
