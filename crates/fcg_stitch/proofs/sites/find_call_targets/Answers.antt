use Rattle.std.proofs.Common.{◌≡◌, length, true, false, sym, subst, ◌∙◌}
use Rattle.std.proofs.lemmas.Option.{slice_get_within}
use Rattle.std.proofs.lemmas.Result.{IfOk-weaker}
use Rattle.fcg_views.specs.declared.view.Ref.{Ref}
use Rattle.fcg_views.specs.declared.view.Site.{Site}
use Rattle.fcg_analysis.specs.Declarations.{Placed, has_array_owner}
use Rattle.fcg_analysis.specs.Edges.{call_of}
use Rattle.fcg_analysis.specs.Resolution.{resolved}
use Rattle.fcg_join.specs.Parts.{types_of, nodes_of}
use Rattle.fcg_join.specs.Numbers.{HasRef}
use Rattle.fcg_stitch.specs.Targets.{targets_over, site_targets}
use Rattle.fcg_stitch.specs.Internal.References.{IsReferenceAt}
use Rattle.fcg_stitch.specs.Internal.Rows.{AreTargets}
use Rattle.fcg_stitch.specs.Internal.Calling.{CallsAs}
use Rattle.fcg_stitch.proofs.MoreLists.{same_lists}
use Rattle.fcg_stitch.proofs.StateRows.{found_target, outcome_of_each}
use Rattle.fcg_stitch.proofs.SiteKinds.{targets_of_array, targets_of_call, targets_of_dispatch}
use Rattle.fcg_stitch.proofs.sites.find_call_targets.Goals as goal

pub array_target-requires : goal.array_target-requires
array_target-requires c = (c.requires.state c.requires.site.1.target c.requires.site.2.reference).range

pub returns-then-has_array_owner-clause-targets : goal.returns-then-has_array_owner-clause-targets
returns-then-has_array_owner-clause-targets c = λ x s k.
    let types = types_of c.args.joined.now in
    let numbered : HasRef c.args.joined.now c.number_ref-reference.result s.target = c.number_ref-reference.ensures.value s.target k.reference in
    let owner : has_array_owner s.target ≡ true = sym (c.has_array_owner.ensures s.target numbered) ∙ c.if-has_array_owner.true in
    found_target c.args.maker.now.count (length (nodes_of c.args.joined.now)) c.args.maker.now.lists c.one_or_none.result c.array_target.result (site_targets types x s)
    c.requires.count
    c.one_or_none.ensures
    c.array_target.ensures.range
    (c.array_target.ensures.value (resolved types s.target) (call_of s.kind) (c.requires.state s.target k.reference).outcome k.call ∙ sym (targets_of_array types x s owner))

pub call_target-requires : goal.call_target-requires
call_target-requires c =
    let x = c.requires.site.0 in
    let s = c.requires.site.1 in
    let k = c.requires.site.2 in
    let state = c.requires.state s.target k.reference in
    record {
      there = slice_get_within (types_of c.args.joined.now) c.args.site.caller.0 x k.class;
      within = c.number_ref-reference.ensures.within;
      range = state.range;
      outcome = outcome_of_each c.args.joined.now c.number_ref-reference.result s.target c.args.state.outcome (c.number_ref-reference.ensures.value s.target k.reference) state.outcome;
    }

pub returns-in-Dispatched-clause-targets : goal.returns-in-Dispatched-clause-targets
returns-in-Dispatched-clause-targets c =
    let types = types_of c.args.joined.now in
    let n = c.find_shared.new.maker.count in
    let lists = c.find_shared.new.maker.lists in
    IfOk-weaker c.find_shared.result
    (λ t. (r : Ref) → IsReferenceAt c.args.joined.now c.args.site.part c.args.site.reference r → AreTargets n lists t (targets_over types r types))
    (λ t. (x : Placed) (s : Site) → CallsAs c.args.joined.now c.args.site x s → AreTargets n lists t (site_targets types x s))
    (λ t a x s k.
    let numbered : HasRef c.args.joined.now c.number_ref-reference.result s.target = c.number_ref-reference.ensures.value s.target k.reference in
    let owner : has_array_owner s.target ≡ false = sym (c.has_array_owner.ensures s.target numbered) ∙ c.if-has_array_owner.false in
    subst (λ ks. AreTargets n lists t ks) (sym (targets_of_dispatch types x s owner (sym c.in-Dispatched.is ∙ k.call))) (a s.target k.reference))
    c.find_shared.ensures.targets

pub returns-in_default : goal.returns-in_default
returns-in_default c = record {
  lists = same_lists c.args.maker.now;
  states = c.requires.states;
  targets = λ x s k.
      (let types = types_of c.args.joined.now in
      let numbered : HasRef c.args.joined.now c.number_ref-reference.result s.target = c.number_ref-reference.ensures.value s.target k.reference in
      let owner : has_array_owner s.target ≡ false = sym (c.has_array_owner.ensures s.target numbered) ∙ c.if-has_array_owner.false in
      found_target c.args.maker.now.count (length (nodes_of c.args.joined.now)) c.args.maker.now.lists c.one_or_none-in_default.result c.call_target.result (site_targets types x s)
      c.requires.count
      c.one_or_none-in_default.ensures
      c.call_target.ensures.range
      (c.call_target.ensures.value x s.target (call_of s.kind) k.class numbered k.call c.in_default.not-Dispatched ∙ sym (targets_of_call types x s owner)));
}
