use Rattle.std.proofs.Common.{None, sym, ◌∙◌}
use Rattle.fcg_stitch.proofs.StateRows.{resolved_state, kept_states}
use Rattle.fcg_stitch.proofs.sites.find_state.Goals as goal

pub returns-in-Some-clause-state : goal.returns-in-Some-clause-state
returns-in-Some-clause-state g c = λ lists reference a i. a.each c.args.part c.args.r c.in-Some.state reference (sym c.get.ensures ∙ c.in-Some.is) i

pub returns-clause-state : goal.returns-clause-state
returns-clause-state g c = λ lists reference a i. resolved_state c.args.joined.now lists reference c.resolve_numbered-outcome.result (c.resolve_numbered-outcome.ensures.outcome reference (c.number_ref.ensures.value reference i)) c.resolve_numbered-outcome.ensures.range

pub returns-clause-states : goal.returns-clause-states
returns-clause-states g c = λ lists a.
    kept_states c.args.joined.now lists c.args.states.now c.set.new.self c.args.part c.args.r (record { outcome = c.resolve_numbered-outcome.result; targets = None })
    (c.set.ensures.there c.args.joined.now)
    c.set.ensures.others
    (λ reference i. resolved_state c.args.joined.now lists reference c.resolve_numbered-outcome.result (c.resolve_numbered-outcome.ensures.outcome reference (c.number_ref.ensures.value reference i)) c.resolve_numbered-outcome.ensures.range)
    a
