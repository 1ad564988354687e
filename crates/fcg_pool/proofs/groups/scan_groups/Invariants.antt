use Rattle.std.proofs.Common.{◌≡◌, ◌+◌, length}
use Rattle.fcg_classfile.specs.Breaks.Groups.{bad_group}
use Rattle.fcg_pool.proofs.groups.scan_groups.Given as goal

abbrev pub invariant-loop-rest : goal.invariant-loop-rest
invariant-loop-rest l = (bad_group l.place l.rest ≡ bad_group l.at l.text) × (l.place + length l.rest ≡ l.at + length l.text)

abbrev pub decreases-loop-rest : goal.decreases-loop-rest
decreases-loop-rest l = length l.rest
