use Rattle.fcg_partial.specs.Internal.UsedNumbers.{marked}
use Rattle.fcg_partial.specs.Reading.{site_at}
use Rattle.std.proofs.Common.{refl, sym}
use Rattle.fcg_partial.proofs.rows.read_site.Goals as goal

pub returns-clause-value : goal.returns-clause-value
unfolding site_at marked
returns-clause-value c = λ k. (
    let pc = sym c.in_ok-_pc.ensures.value in
    let kind = sym c.in_ok-_kind.ensures.value in
    let reference = sym c.in_ok-_reference.ensures.value in
    record {
      value = record { pc = c.in_ok-_pc._pc; kind = c.in_ok-_kind._kind; reference = c.in_ok-_reference._reference };
      read_is = rw (pc, kind, reference) refl;
      marks = c.in_ok-_reference.ensures.marks;
    })
