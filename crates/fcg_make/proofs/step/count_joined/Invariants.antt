use Rattle.std.proofs.Common.{◌≡◌, ◌+◌, length}
use Rattle.fcg_make.specs.Steps.{joined_after}
use Rattle.fcg_make.proofs.step.count_joined.Given as goal

abbrev pub invariant-loop-site : goal.invariant-loop-site
invariant-loop-site l =
    (l.count + joined_after l.first l.rest ≡ joined_after l.first l.others) × (l.count + length l.rest ≡ length l.others)

abbrev pub decreases-loop-site : goal.decreases-loop-site
decreases-loop-site l = length l.rest
