use Rattle.std.proofs.Common.{◌≡◌, ◌<◌, ◌≤◌, ℕ, List, length, get_or, sym, subst, arith}
use Rattle.std.proofs.lemmas.Result.{on_ok_weaker}
use Rattle.fcg_order.specs.Links.{row}
use Rattle.fcg_order.specs.Internal.Search.{state_of, with_frames, frames_after_lower, after_pop_component, after_follow, mark, node_at, IsStep}
use Rattle.fcg_order.proofs.StepLaws.{step_follow, step_lower, step_pop, stack_below, target_below, row_read}
use Rattle.fcg_order.proofs.search.Search.step.Goals as goal

pub follow-requires-clause-node : goal.follow-requires-clause-node
follow-requires-clause-node c =
    let rows = c.args.links.now in
    let s = state_of c.args.self.now in
    let r : c.row-row.result.now ≡ row rows (node_at s c.args.frame.place) = row_read rows s c.args.frame c.requires.state c.index-node.result.now c.row-row.result.now c.index-node.ensures c.row-row.ensures in
    let l = target_below rows s c.args.frame c.requires.state c.requires.links (subst (λ (xs : List ℕ). c.args.frame.next < length xs) r c.if-frame-row.true) in
    let m = c.requires.state.marks_long in
    subst (λ (xs : List ℕ). get_or xs c.args.frame.next 0 < length c.args.self.now.marks.items) (sym r) (omega arith)

pub pop_component-requires-clause-marks : goal.pop_component-requires-clause-marks
pop_component-requires-clause-marks c = λ k d l. (
    let b = stack_below c.args.links.now _ c.requires.state k d l in
    let m = c.requires.state.marks_long in omega arith)

pub pop_component-requires-clause-circular : goal.pop_component-requires-clause-circular
pop_component-requires-clause-circular c = λ k d l. (
    let b = stack_below c.args.links.now _ c.requires.state k d l in
    let m = c.requires.state.circular_long in omega arith)

pub returns-then-frame-row : goal.returns-then-frame-row
returns-then-frame-row c =
    let rows = c.args.links.now in
    let s = state_of c.args.self.now in
    let f = c.args.frame in
    let r : c.row-row.result.now ≡ row rows (node_at s f.place) = row_read rows s f c.requires.state c.index-node.result.now c.row-row.result.now c.index-node.ensures c.row-row.ensures in
    let t = step_follow rows s f c.requires.state c.requires.links (subst (λ (xs : List ℕ). f.next < length xs) r c.if-frame-row.true) in
    let u : IsStep rows s (after_follow (mark s (get_or c.row-row.result.now f.next 0)) s f (get_or c.row-row.result.now f.next 0)) f =
    subst (λ (xs : List ℕ). IsStep rows s (after_follow (mark s (get_or xs f.next 0)) s f (get_or xs f.next 0)) f) (sym r) t in
    let w : state_of c.follow.new.self ≡ after_follow (mark s (get_or c.row-row.result.now f.next 0)) s f (get_or c.row-row.result.now f.next 0) → IsStep rows s (state_of c.follow.new.self) f =
    (λ e. subst (λ t. IsStep rows s t f) (sym e) u) in
    on_ok_weaker c.follow.result w c.follow.ensures

pub returns-then-frame : goal.returns-then-frame
returns-then-frame c =
    let rows = c.args.links.now in
    let s = state_of c.args.self.now in
    let f = c.args.frame in
    let r : c.row-row.result.now ≡ row rows (node_at s f.place) = row_read rows s f c.requires.state c.index-node.result.now c.row-row.result.now c.index-node.ensures c.row-row.ensures in
    let u = step_lower rows s f c.requires.state (subst (λ (xs : List ℕ). length xs ≤ f.next) r c.if-frame-row.false) c.if-frame.true in
    let w : state_of c.lower_parent.new.self ≡ with_frames s (frames_after_lower f.low s.frames) → IsStep rows s (state_of c.lower_parent.new.self) f =
    (λ e. subst (λ t. IsStep rows s t f) (sym e) u) in
    on_ok_weaker c.lower_parent.result w c.lower_parent.ensures

pub returns-else-frame : goal.returns-else-frame
returns-else-frame c =
    let rows = c.args.links.now in
    let s = state_of c.args.self.now in
    let f = c.args.frame in
    let r : c.row-row.result.now ≡ row rows (node_at s f.place) = row_read rows s f c.requires.state c.index-node.result.now c.row-row.result.now c.index-node.ensures c.row-row.ensures in
    let u = step_pop rows s f c.requires.state (subst (λ (xs : List ℕ). length xs ≤ f.next) r c.if-frame-row.false) c.if-frame.false in
    let w : state_of c.pop_component.new.self ≡ after_pop_component s f.place → IsStep rows s (state_of c.pop_component.new.self) f =
    (λ e. subst (λ t. IsStep rows s t f) (sym e) u) in
    on_ok_weaker c.pop_component.result w c.pop_component.ensures
