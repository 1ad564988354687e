use Rattle.std.proofs.Common.{rules, ◌≡◌, ◌+◌, replicate, length, arith}
use Rattle.fcg_order.proofs.PlaceSums.{sizes_all_one}
use Rattle.fcg_order.proofs.places.find_sizes.Goals as goal

pub loop-i-init : goal.loop-i-init
loop-i-init c =
    let e : c.in_ok-sizes.sizes.items ≡ replicate (length c.args.parents.now + 1) 1 = search rules in
    record {
      within = omega arith;
      sizes = sizes_all_one c.args.parents.now c.args.order.now c.requires.forest c.in_ok-sizes.sizes.items e;
    }
