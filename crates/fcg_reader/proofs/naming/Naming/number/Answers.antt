use Rattle.std.proofs.Common.{◌≡◌, ◌+◌, ◌-◌, slice_index_or, arith, subst, sym, ◌∙◌}
use Rattle.fcg_reader.specs.Internal.Naming.{Named, IsNumberOf}
use Rattle.fcg_reader.proofs.naming.Naming.number.Goals as goal

pub returns-then-kept-gt0-clause-number : goal.returns-then-kept-gt0-clause-number
returns-then-kept-gt0-clause-number c =
    let kept = c.first_of-kept.result in
    let found = rw c.deref.ensures.value at c.first_of-kept.ensures in
    let some = c.if-kept-gt0.true in
    let more : slice_index_or c.self.inside.numbers.items c.args.index 0 ≡ (kept - 1) + 1 = sym found ∙ omega (arith, some) in
    subst (λ (n : Named). IsNumberOf n c.args.index (kept - 1)) c.self.view_is (c.self.invariant.kept c.args.index (kept - 1) more)
