use Rattle.std.proofs.Common.{◌≡◌, ◌<◌, ℕ, []}
use Rattle.fcg_order.specs.declared.search.Mark.TheVariants as Mark
use Rattle.fcg_order.specs.Internal.Search.{state_of, mark, IsSearchState}
use Rattle.fcg_order.proofs.order.find_order.Given as goal

abbrev pub invariant-loop-node : goal.invariant-loop-node
invariant-loop-node l = record {
  state : IsSearchState l.links (state_of l.search);
  ended : (state_of l.search).frames ≡ [];
  visited : (v : ℕ) → v < l.node → mark (state_of l.search) v ≡ Mark.Unvisited → ⊥;
}
