use Rattle.std.proofs.Common.{◌≡◌, ◌-◌, ◌≤◌, drop, length}
use Rattle.std.specs.List.{list_all}
use Rattle.fcg_classfile.specs.Breaks.Groups.{is_single}
use Rattle.fcg_pool.proofs.groups.are_single_by.Given as goal

abbrev pub invariant-loop-chunk : goal.invariant-loop-chunk
invariant-loop-chunk g l = (list_all is_single (drop l.at l.text) ≡ list_all is_single l.text) × (l.at ≤ length l.text)

abbrev pub decreases-loop-chunk : goal.decreases-loop-chunk
decreases-loop-chunk g l = length l.text - l.at
