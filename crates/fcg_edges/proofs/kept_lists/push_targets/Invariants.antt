use Rattle.std.proofs.Common.{◌≡◌, ◌++◌, ◌<◌, drop}
use Rattle.std.specs.Prelude.{All, flat_map}
use Rattle.fcg_order.specs.Links.{row}
use Rattle.fcg_edges.proofs.kept_lists.push_targets.Given as goal

abbrev pub invariant-loop-l : goal.invariant-loop-l
invariant-loop-l l = record {
  items : l.numbers.items ++ flat_map (row l.rows.lists) (drop l.l-index l.uses) ≡ l.fn.numbers.items ++ flat_map (row l.rows.lists) l.uses;
  below : All (λ b. b < l.rows.count) l.fn.numbers.items → All (λ b. b < l.rows.count) l.numbers.items;
}
