use Rattle.std.proofs.Common.{◌≡◌, ◌+◌, sum_by, length, take}
use Rattle.fcg_views.specs.declared.view.Method.{Method}
use Rattle.fcg_views.proofs.valid.sites_left.Given as goal

abbrev pub invariant-loop-method : goal.invariant-loop-method
invariant-loop-method l = l.left + sum_by (λ (m : Method). length m.sites) (take l.method-index l.methods) ≡ l.room
