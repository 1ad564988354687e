use Rattle.std.proofs.Common.{◌≡◌, replicate, rules, length, ap, reverse}
use Rattle.fcg_order.specs.declared.search.Mark.TheVariants.{Unvisited}
use Rattle.fcg_order.proofs.SearchLaws.{begun_at}
use Rattle.fcg_order.proofs.search.begin.Goals as goal

pub returns-clause-state : goal.returns-clause-state
returns-clause-state c =
    let e : c.in_ok-marks.marks.items ≡ replicate (length c.args.links.now) Unvisited = search rules in
    begun_at c.args.links.now _ c.in_ok-circular.ensures e c.new.ensures.items (ap (λ fs. reverse fs) c.new-2.ensures.items) c.in_ok-with_capacity.ensures.items
