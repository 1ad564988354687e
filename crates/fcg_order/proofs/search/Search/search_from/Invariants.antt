use Rattle.std.proofs.Common.{◌≡◌}
use Rattle.fcg_order.specs.declared.search.Mark.TheVariants as Mark
use Rattle.fcg_order.specs.Internal.Search.{state_of, mark, work_left, IsSearchState, KeepsVisited}
use Rattle.fcg_order.proofs.search.Search.search_from.Given as goal

abbrev pub invariant-loop-frame : goal.invariant-loop-frame
invariant-loop-frame l = record {
  state : IsSearchState l.links (state_of l.self);
  keeps : KeepsVisited (state_of l.fn.self) (state_of l.self);
  visited : mark (state_of l.self) l.root ≡ Mark.Unvisited → ⊥;
}

abbrev pub decreases-loop-frame : goal.decreases-loop-frame
decreases-loop-frame l = work_left l.links (state_of l.self)
