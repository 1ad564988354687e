use Rattle.std.proofs.Common.{Some, refl, ap, ◌∙◌}
use Rattle.fcg_join.specs.Parts.{types_of}
use Rattle.fcg_edges.specs.Rows.{has}
use Rattle.fcg_stitch.specs.Targets.{targets_over}
use Rattle.fcg_stitch.proofs.MoreLists.{more_of_lists, more_states}
use Rattle.fcg_stitch.proofs.StateRows.{kept_states, known_targets, shared_state, same_targets}
use Rattle.fcg_stitch.proofs.sites.find_shared.Goals as goal

pub returns-in-Some-clause-targets : goal.returns-in-Some-clause-targets
returns-in-Some-clause-targets c = λ reference i. known_targets c.args.joined.now c.args.maker.now c.args.state c.in-Some.targets reference c.requires.count c.in-Some.is (c.requires.state reference i)

pub find_targets-requires-clause-there : goal.find_targets-requires-clause-there
find_targets-requires-clause-there c = (c.requires.there.0, c.number_ref.ensures.value c.requires.there.0 c.requires.there.1)

pub find_targets-requires-clause-range : goal.find_targets-requires-clause-range
find_targets-requires-clause-range c = (c.requires.state c.requires.there.0 c.requires.there.1).range

pub returns-clause-states : goal.returns-clause-states
returns-clause-states c =
    kept_states c.args.joined.now c.share_targets.new.maker.lists c.args.states.now c.set.new.self c.args.part c.args.r (record { outcome = c.args.state.outcome; targets = Some c.in_ok-targets.targets })
    (c.set.ensures.there c.args.joined.now)
    c.set.ensures.others
    (λ reference i.
    shared_state c.args.joined.now c.args.maker.now.lists c.share_targets.new.maker.lists c.share_targets.new.maker.count c.args.state c.in_ok-targets.targets c.as_slice.result.now reference
    (c.in_ok-targets.ensures.lists.count ∙ c.requires.count)
    (c.requires.state reference i)
    c.in_ok-targets.ensures.targets
    (λ b. ap (λ xs. has xs b) c.as_slice.ensures.value ∙ c.in_ok-found.ensures.members reference (c.number_ref.ensures.value reference i) b))
    (more_states c.args.maker.now.lists c.share_targets.new.maker.lists (more_of_lists c.args.maker.now c.share_targets.new.maker c.in_ok-targets.ensures.lists) c.args.joined.now c.args.states.now c.requires.states)

pub returns-clause-targets : goal.returns-clause-targets
returns-clause-targets c = λ reference i.
    same_targets c.share_targets.new.maker.count c.share_targets.new.maker.count c.share_targets.new.maker.lists c.in_ok-targets.targets c.as_slice.result.now (targets_over (types_of c.args.joined.now) reference (types_of c.args.joined.now))
    refl
    c.in_ok-targets.ensures.targets
    (λ b. ap (λ xs. has xs b) c.as_slice.ensures.value ∙ c.in_ok-found.ensures.members reference (c.number_ref.ensures.value reference i) b)
