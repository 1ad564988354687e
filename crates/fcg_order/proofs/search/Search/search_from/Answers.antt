use Rattle.std.proofs.Common.{subst, sym}
use Rattle.fcg_order.specs.Internal.Search.{state_of}
use Rattle.fcg_order.proofs.SearchLaws.{IsSearchBegun, search_begun}
use Rattle.fcg_order.proofs.search.Search.search_from.Goals as goal

pub loop-frame-init : goal.loop-frame-init
loop-frame-init c =
    let b = search_begun c.args.links.now (state_of c.args.self.now) c.args.root c.requires.state c.requires.ended c.requires.root c.requires.unvisited in
    let t : IsSearchBegun c.args.links.now (state_of c.args.self.now) (state_of c.enter.new.self) c.args.root =
    subst (λ u. IsSearchBegun c.args.links.now (state_of c.args.self.now) u c.args.root) (sym c.in_ok-enter.ensures) b in
    record { state = t.state; keeps = t.keeps; visited = t.visited }
