use Rattle.std.proofs.Common.{take, All}
use Rattle.fcg_views.specs.NamesIn.{names_of_field}
use Rattle.fcg_partial.specs.Internal.Written.{written_field}
use Rattle.fcg_partial.specs.SmallNumbers.{IsSmallField}
use Rattle.fcg_partial.proofs.NumberedLaws.{IsSoFar}
use Rattle.fcg_partial.proofs.write.push_fields.Given as goal

abbrev pub invariant-loop-field : goal.invariant-loop-field
invariant-loop-field l = record {
  text : IsSoFar names_of_field written_field l.fields l.field-index l.fn.out.items l.out.items l.fn.numbers l.numbers;
  small : All IsSmallField (take l.field-index l.fields);
}
