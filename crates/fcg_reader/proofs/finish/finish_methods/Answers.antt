use Rattle.std.proofs.Common.{length, ap, ◌∙◌, arith}
use Rattle.std.specs.Vec.Iter.{into_iter_items}
use Rattle.fcg_classfile.specs.Breaks.Members.{finished}
use Rattle.fcg_reader.specs.Internal.Rows.{method_in}
use Rattle.fcg_reader.specs.Internal.Calls.{unfinished_in}
use Rattle.fcg_reader.proofs.HandleLemmas.{mapped_goes_on}
use Rattle.fcg_reader.proofs.finish.finish_methods.Goals as goal

pub loop-unfinished-preserved : goal.loop-unfinished-preserved
loop-unfinished-preserved c =
    let inv = c.loop-unfinished.invariant in
    let pool = c.args.names.now in
    let steps = c.in-Some.ensures.steps in
    let so_far = rw steps.0 at inv.0 in
    let many = inv.1 ∙ ap length steps.0 in
    let one_less = steps.1 in
    let given = rw inv.3 at c.in_ok-method.ensures.value in
    let next = mapped_goes_on (unfinished_in pool) (method_in pool) (finished pool c.args.rows.items) c.loop-unfinished.done.items c.in-Some.unfinished (into_iter_items c.next.new.self) c.loop-unfinished.count c.in_ok-method.method c.in_ok-method.after _ given so_far in
    (rw c.in_ok-push.ensures.items next, omega (arith, many, one_less), c.in_ok-method.ensures.few, c.in_ok-method.ensures.kept ∙ inv.3, c.in_ok-method.ensures.same ∙ inv.4)
