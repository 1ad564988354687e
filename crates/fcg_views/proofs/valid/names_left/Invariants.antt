use Rattle.std.proofs.Common.{◌≡◌, ◌+◌, sum_by, take}
use Rattle.fcg_views.specs.Valid.{view_names}
use Rattle.fcg_views.proofs.valid.names_left.Given as goal

abbrev pub invariant-loop-view : goal.invariant-loop-view
invariant-loop-view l = l.left + sum_by view_names (take l.view-index l.views) ≡ l.room
