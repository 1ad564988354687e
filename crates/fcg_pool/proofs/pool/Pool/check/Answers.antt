use Rattle.std.proofs.Common.{sym, ◌∙◌, ◌+◌, None}
use Rattle.std.proofs.lemmas.Result.{err_from_is_err_and}
use Rattle.fcg_classfile.specs.Breaks.Pool.{slot_kept}
use Rattle.fcg_pool.specs.Internal.ConstantAt.{slot_in}
use Rattle.fcg_grammar.proofs.RowLemmas.{each_goes_on, each_ends}
use Rattle.fcg_pool.proofs.PlaceLemmas.{kept_at, inside_slots}
use Rattle.fcg_pool.proofs.pool.Pool.check.Goals as goal

pub returns-in_err-check_slot : goal.returns-in_err-check_slot
returns-in_err-check_slot c =
    let p = err_from_is_err_and c.from_residual.result c.from_residual.ensures.1 in
    let kept = kept_at c.self.inside.bytes.now c.self.inside.places.items c.deref-place-items.result.now c.args.self.now (c.loop-i.i + 1) c.loop-i.i None c.check_slot.result c.self.view_is c.deref-place-items.ensures.value c.check_slot.ensures in
    let lt = inside_slots c.self.inside.bytes.now c.self.inside.places.items c.deref-place-items.result.now c.args.self.now c.loop-i.i c.self.view_is c.deref-place-items.ensures.value c.loop-i-test.true in
    rw (p.1, p.2) (sym (each_ends (slot_kept c.args.self.now) 1 c.loop-i.i c.args.self.now.slots (slot_in c.self.inside.bytes.now None) _ _ lt (kept ∙ c.in_err-check_slot.was) c.loop-i.invariant))

pub loop-i-preserved : goal.loop-i-preserved
loop-i-preserved c =
    let kept = kept_at c.self.inside.bytes.now c.self.inside.places.items c.deref-place-items.result.now c.args.self.now (c.loop-i.i + 1) c.loop-i.i None c.check_slot.result c.self.view_is c.deref-place-items.ensures.value c.check_slot.ensures in
    let lt = inside_slots c.self.inside.bytes.now c.self.inside.places.items c.deref-place-items.result.now c.args.self.now c.loop-i.i c.self.view_is c.deref-place-items.ensures.value c.loop-i-test.true in
    each_goes_on (slot_kept c.args.self.now) 1 c.loop-i.i c.args.self.now.slots (slot_in c.self.inside.bytes.now None) _ lt (kept ∙ c.in_ok-check_slot.was) c.loop-i.invariant
