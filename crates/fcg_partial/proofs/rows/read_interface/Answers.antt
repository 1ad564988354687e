use Rattle.fcg_partial.specs.Internal.UsedNumbers.{marked}
use Rattle.fcg_partial.specs.Reading.{interface_at}
use Rattle.std.proofs.Common.{refl, sym}
use Rattle.fcg_partial.proofs.rows.read_interface.Goals as goal

pub returns-clause-value : goal.returns-clause-value
unfolding interface_at marked
returns-clause-value c = λ k. record {
  value = c.in_ok-read_index.field-0;
  read_is = rw (sym c.in_ok-read_index.ensures.value) refl;
  marks = c.in_ok-read_index.ensures.marks;
}
