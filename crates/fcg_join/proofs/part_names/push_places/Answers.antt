use Rattle.fcg_join.proofs.CollectedLaws.{ranged_next}
use Rattle.fcg_join.proofs.part_names.push_places.Goals as goal

pub loop-number-preserved : goal.loop-number-preserved
loop-number-preserved c = ranged_next (λ k. record { part = c.args.i; number = k }) c.loop-number.number c.args.places.now.items c.loop-number.places.items c.push.new.self.items c.loop-number.invariant c.in_ok-push.ensures.items
