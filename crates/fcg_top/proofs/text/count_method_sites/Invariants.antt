use Rattle.std.proofs.Common.{◌≡◌, take}
use Rattle.fcg_views.specs.Valid.{site_count}
use Rattle.fcg_top.proofs.text.count_method_sites.Given as goal

abbrev pub invariant-loop-method : goal.invariant-loop-method
invariant-loop-method l = l.count ≡ site_count (take l.method-index l.methods)
