use Rattle.std.proofs.Common.{length, drop, ◌-◌, ◌≡◌, ◌≤◌}
use Rattle.fcg_views.specs.DescriptorSteps.{scan_from}
use Rattle.fcg_views.specs.Internal.DescriptorBounds.{IsSmall}
use Rattle.fcg_views.proofs.descriptor.scan_from.Given as goal

abbrev pub invariant-loop-at : goal.invariant-loop-at
invariant-loop-at l = (scan_from l.at l.state (drop l.at l.text) ≡ scan_from 0 l.fn.start l.text) × IsSmall l.state × (l.at ≤ length l.text)

abbrev pub decreases-loop-at : goal.decreases-loop-at
decreases-loop-at l = length l.text - l.at
