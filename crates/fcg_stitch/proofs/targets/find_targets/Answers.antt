use Rattle.std.proofs.Common.{◌≡◌, length, sym, ap, ◌∙◌, arith}
use Rattle.std.specs.Prelude.{map, slice_get}
use Rattle.fcg_analysis.specs.Resolution.{resolved}
use Rattle.fcg_join.specs.Parts.{types_of}
use Rattle.fcg_edges.specs.Rows.{has}
use Rattle.fcg_stitch.proofs.TargetNumbers.{none_of_others}
use Rattle.fcg_stitch.proofs.FoundTargets.{nothing_found, next, whole, instance_found, listed_once}
use Rattle.fcg_stitch.proofs.targets.find_targets.Goals as goal

pub returns-then-not-is_dispatched-clause-members : goal.returns-then-not-is_dispatched-clause-members
returns-then-not-is_dispatched-clause-members c = λ r h b. (
    let types = types_of c.args.joined.now in
    let none = none_of_others types r types (sym (c.is_dispatched.ensures (resolved types r) (c.requires.outcome r h)) ∙ c.if-not-is_dispatched.true) in
    ap (λ ks. has ks b) (c.new-targets.ensures.items ∙ sym none))

pub loop-d-init : goal.loop-d-init
loop-d-init c = λ r h. c.new-targets.ensures.items ∙ sym (nothing_found (types_of c.args.joined.now) r)

pub push_target-requires-clause-method : goal.push_target-requires-clause-method
push_target-requires-clause-method c =
    let parts = c.args.joined.now in
    let r = c.requires.there.0 in
    let h = c.requires.there.1 in
    let g = c.requires.outcome r h in
    instance_found parts c.args.outcome c.signature_of_names-s.result r g (sym (c.is_dispatched.ensures (resolved (types_of parts) r) g) ∙ c.if-not-is_dispatched.false)
    (c.signature_of_names-s.ensures.value r.name r.desc h.name h.desc)

pub loop-d-preserved : goal.loop-d-preserved
loop-d-preserved c = λ r h. (
    let parts = c.args.joined.now in
    let g = c.requires.outcome r h in
    let e = sym (c.is_dispatched.ensures (resolved (types_of parts) r) g) ∙ c.if-not-is_dispatched.false in
    let s = c.signature_of_names-s.ensures.value r.name r.desc h.name h.desc in
    next parts c.args.reference r h c.name.result.now c.name.ensures c.as_slice-d-items.result.now
    (ap (λ ids. map (λ id. slice_get (types_of parts) id.0) ids) c.as_slice-d-items.ensures.value ∙ c.in_ok-types.ensures.value)
    c.loop-d.d-index _ c.loop-d-test.true e c.loop-d.targets.items c.push_target.new.targets.items (c.loop-d.invariant r h)
    (λ x k b. c.in_ok-push_target.ensures x r k b g s))

pub returns-clause-list : goal.returns-clause-list
returns-clause-list c =
    let r = c.requires.there.0 in
    listed_once (types_of c.args.joined.now) r _ c.loop-d.targets.items c.sort_distinct.new.numbers.items (c.loop-d.invariant r c.requires.there.1) c.sort_distinct.ensures

pub returns-clause-members : goal.returns-clause-members
returns-clause-members c = λ r h b. (
    let parts = c.args.joined.now in
    let e : c.loop-d.d-index ≡ length c.as_slice-d-items.result.now = (let t = c.loop-d-test.false in let u = c.loop-d.auto.d-index-end in omega (arith, t, u)) in
    c.sort_distinct.ensures.same b
    ∙ ap (λ ks. has ks b) (c.loop-d.invariant r h
    ∙ whole parts c.args.reference r h c.name.result.now c.name.ensures c.as_slice-d-items.result.now
    (ap (λ ids. map (λ id. slice_get (types_of parts) id.0) ids) c.as_slice-d-items.ensures.value ∙ c.in_ok-types.ensures.value) c.loop-d.d-index e))
