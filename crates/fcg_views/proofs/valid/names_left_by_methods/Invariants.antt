use Rattle.std.proofs.Common.{◌≡◌, ◌+◌, sum_by, take}
use Rattle.fcg_views.specs.Valid.{method_names}
use Rattle.fcg_views.proofs.valid.names_left_by_methods.Given as goal

abbrev pub invariant-loop-method : goal.invariant-loop-method
invariant-loop-method l = l.left + sum_by method_names (take l.method-index l.methods) ≡ l.room
