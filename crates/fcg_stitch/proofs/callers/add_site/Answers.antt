use Rattle.std.proofs.Common.{◌≡◌, ℕ, ◌≤◌, ◌+◌, [], ◌∷◌, length, sym, subst, ◌∙◌}
use Rattle.std.specs.Prelude.{filter}
use Rattle.fcg_analysis.specs.Resolution.{resolved}
use Rattle.fcg_analysis.specs.Edges as rules
use Rattle.fcg_join.specs.Parts.{types_of}
use Rattle.fcg_stitch.specs.Limits.{calls}
use Rattle.fcg_stitch.specs.Targets.{site_targets}
use Rattle.fcg_stitch.specs.declared.status.SiteStatus.TheVariants as statuses
use Rattle.fcg_stitch.specs.Internal.Calling.{AddsTargets}
use Rattle.fcg_stitch.proofs.MoreLists.{more_row_within}
use Rattle.fcg_stitch.proofs.SiteKinds.{targets_of_none, status_of_call_site, status_of_no_call, calls_once}
use Rattle.fcg_stitch.proofs.SiteRows.{site_adds, status_adds}
use Rattle.fcg_stitch.proofs.CallerRows.{adds_nothing}
use Rattle.fcg_stitch.proofs.callers.add_site.Goals as goal

pub returns-in-NoCall-clause-targets : goal.returns-in-NoCall-clause-targets
returns-in-NoCall-clause-targets g c = λ x s k.
    subst (λ ks. AddsTargets c.args.maker.now c.args.maker.now c.args.work.now c.args.work.now ks) (sym (targets_of_none (types_of c.args.joined.now) x s (sym c.in-NoCall.is ∙ k.call)))
    (adds_nothing c.args.maker.now c.args.work.now)

pub returns-in-NoCall-clause-statuses : goal.returns-in-NoCall-clause-statuses
returns-in-NoCall-clause-statuses g c = λ x s k.
    status_adds c.args.work.now.statuses.items c.push.new.self.items statuses.NoCall (rules.status (types_of c.args.joined.now) s)
    c.in_ok-push.ensures.items
    (sym (status_of_no_call (types_of c.args.joined.now) s (sym c.in-NoCall.is ∙ k.call)))

pub find_call_targets-requires : goal.find_call_targets-requires
find_call_targets-requires g c = record {
  site = c.requires.site;
  count = c.requires.work.count;
  states = c.find_state-state.ensures.states c.args.maker.now.lists c.requires.work.states;
  state = λ r i. c.find_state-state.ensures.state c.args.maker.now.lists r c.requires.work.states i;
}

pub returns-clause-work : goal.returns-clause-work
returns-clause-work g c = record {
  count = c.in_ok-targets.ensures.lists.count ∙ c.requires.work.count;
  states = c.in_ok-targets.ensures.states;
  row = (let x = c.requires.site.0 in
      let s = c.requires.site.1 in
      let k = c.requires.site.2 in
      c.in_ok-push-2.ensures.within c.find_call_targets.new.maker
      (more_row_within c.args.maker.now c.find_call_targets.new.maker c.args.work.now.row.targets.items c.args.work.now.row.uses.items c.in_ok-targets.ensures.lists c.requires.work.row)
      (c.in_ok-targets.ensures.targets x s k).within);
}

pub returns-clause-targets : goal.returns-clause-targets
returns-clause-targets g c = λ x s k.
    site_adds c.find_call_targets.new.maker.count c.args.maker.now c.find_call_targets.new.maker
    c.args.work.now.row.targets.items c.args.work.now.row.uses.items c.push-2.new.self.targets.items c.push-2.new.self.uses.items
    c.in_ok-targets.targets (site_targets (types_of c.args.joined.now) x s)
    c.in_ok-targets.ensures.lists c.requires.work.row c.in_ok-push-2.ensures.has (c.in_ok-targets.ensures.targets x s k)

pub returns-clause-statuses : goal.returns-clause-statuses
returns-clause-statuses g c = λ x s k.
    let types = types_of c.args.joined.now in
    let state = c.find_state-state.ensures.state c.args.maker.now.lists s.target c.requires.work.states k.reference in
    status_adds c.args.work.now.statuses.items c.push-3.new.self.items c.status_of.result (rules.status types s)
    c.in_ok-push-3.ensures.items
    (c.status_of.ensures c.args.joined.now (resolved types s.target) state.outcome ∙ sym (status_of_call_site types s (λ e. c.in_default.not-NoCall (k.call ∙ e))))

pub returns-clause-cost : goal.returns-clause-cost
returns-clause-cost g c = λ x s k.
    let one : length (filter calls (s ∷ [])) ≡ 1 = calls_once s (λ e. c.in_default.not-NoCall (k.call ∙ e)) in
    subst (λ (n : ℕ). c.find_state-state.new.steps ≤ c.args.steps.now + n) (sym one) c.find_state-state.ensures.cost
