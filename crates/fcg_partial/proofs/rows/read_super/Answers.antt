use Rattle.std.proofs.Common.{◌≡◌, true, false, refl, sym, arith}
use Rattle.std.specs.Prelude.{Some, None, ◌==◌}
use Rattle.std.proofs.lemmas.Bool.Decides.{nat_tests}
use Rattle.fcg_partial.specs.Internal.UsedNumbers.{marked}
use Rattle.fcg_partial.specs.Reading.{super_at}
use Rattle.fcg_partial.proofs.rows.read_super.Goals as goal

pub returns-then-branch-clause-value : goal.returns-then-branch-clause-value
unfolding super_at marked
returns-then-branch-clause-value c =
    let none : (c.in_ok-read_u4.field-0 == 0xffffffff) ≡ true = (let t = c.if-branch.true in grind (arith, nat_tests)) in
    record { value = None; read_is = rw (sym c.in_ok-read_u4.ensures.value, none) refl; marks = refl }

pub returns-clause-value : goal.returns-clause-value
unfolding super_at marked
returns-clause-value c =
    let some : (c.in_ok-read_u4.field-0 == 0xffffffff) ≡ false = (let t = c.if-branch.false in grind (arith, nat_tests)) in
    record { value = Some c.in_ok-read_index.field-0; read_is = rw (sym c.in_ok-read_u4.ensures.value, some, sym c.in_ok-read_index.ensures.value) refl; marks = c.in_ok-read_index.ensures.marks }
