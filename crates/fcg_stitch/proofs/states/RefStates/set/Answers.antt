use Rattle.std.proofs.Common.{◌≡◌, ap, subst, sym, ◌∙◌, inr}
use Rattle.fcg_stitch.specs.Internal.Rows.{state_at, HavePlaces}
use Rattle.fcg_stitch.specs.contracts.states.RefStates.{the_view}
use Rattle.fcg_stitch.proofs.StateLaws.{after, put_places, put_others, put_is}
use Rattle.fcg_stitch.proofs.states.RefStates.set.Goals as goal
use Rattle.fcg_stitch.proofs.states.RefStates.set.Goals.{in-Some, in_default}

pub returns-clause-there : goal.returns-clause-there
returns-clause-there c = elim c.match-get_mut.branch [
  | in-Some w ↦ (let e : the_view c.match-get_mut.self-inside ≡ after c.args.self.now c.args.part c.args.r c.args.state =
      ap the_view w.self-inside-is
      ∙ put_is (λ v. v.items) c.self.inside.parts.items c.args.part c.args.r c.args.state w.in-Some.states.now w.put_state.new.states w.in-Some.ensures.item.3.0 w.in-Some.ensures.value w.put_state.ensures
      ∙ ap (λ states. after states c.args.part c.args.r c.args.state) c.self.view_is in
      λ parts h. subst (HavePlaces parts) (sym e) (put_places c.args.self.now c.args.part c.args.r c.args.state parts h))
  | in_default w ↦ λ parts h. subst (HavePlaces parts) (sym (ap the_view w.self-inside-is ∙ c.self.view_is)) h
]

pub returns-clause-others : goal.returns-clause-others
returns-clause-others c = elim c.match-get_mut.branch [
  | in-Some w ↦ (let e : the_view c.match-get_mut.self-inside ≡ after c.args.self.now c.args.part c.args.r c.args.state =
      ap the_view w.self-inside-is
      ∙ put_is (λ v. v.items) c.self.inside.parts.items c.args.part c.args.r c.args.state w.in-Some.states.now w.put_state.new.states w.in-Some.ensures.item.3.0 w.in-Some.ensures.value w.put_state.ensures
      ∙ ap (λ states. after states c.args.part c.args.r c.args.state) c.self.view_is in
      λ i k s h. put_others c.args.self.now c.args.part c.args.r c.args.state i k s (ap (λ states. state_at states i k) (sym e) ∙ h))
  | in_default w ↦ λ i k s h. inr (ap (λ states. state_at states i k) (sym (ap the_view w.self-inside-is ∙ c.self.view_is)) ∙ h)
]
