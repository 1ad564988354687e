use Rattle.fcg_stitch.proofs.FoundTargets.{AreFound}
use Rattle.fcg_stitch.proofs.targets.find_targets.Given as goal

abbrev pub invariant-loop-d : goal.invariant-loop-d
invariant-loop-d l = AreFound l.joined l.fn.reference l.d-index l.targets.items
