use Rattle.fcg_partial.specs.Internal.UsedNumbers.{marked}
use Rattle.fcg_partial.specs.Reading.{field_at}
use Rattle.std.proofs.Common.{refl, sym}
use Rattle.fcg_partial.proofs.rows.read_field.Goals as goal

pub returns-clause-value : goal.returns-clause-value
unfolding field_at marked
returns-clause-value c = λ k. (
    let name = sym c.in_ok-_name.ensures.value in
    let desc = sym (rw c.in_ok-_name.ensures.long at c.in_ok-_desc.ensures.value) in
    let flags = sym c.in_ok-_flags.ensures.value in
    record {
      value = record { name = c.in_ok-_name._name; desc = c.in_ok-_desc._desc; flags = c.in_ok-_flags._flags };
      read_is = rw (name, desc, flags) refl;
      marks = rw (c.in_ok-_desc.ensures.marks, c.in_ok-_name.ensures.marks) refl;
    })
