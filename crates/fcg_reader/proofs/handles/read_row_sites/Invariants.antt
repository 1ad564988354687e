use Rattle.std.proofs.Common.{◌≡◌, ◌≤◌, ◌+◌, ◌∷◌, length, drop}
use Rattle.fcg_grammar.specs.Rows.{carried}
use Rattle.fcg_classfile.specs.Breaks.Bootstrap.{index_sites}
use Rattle.fcg_reader.specs.Internal.Handles.{all_joined}
use Rattle.fcg_reader.proofs.HandleLemmas.{with_joined}
use Rattle.fcg_reader.proofs.handles.read_row_sites.Given as goal

abbrev pub invariant-loop-index : goal.invariant-loop-index
invariant-loop-index l =
    (with_joined l.fn.names l.sites.items (carried (index_sites l.fn.names l.at l.pc) (drop l.index-index l.row.arguments) (l.count + length l.sites.items))
    ≡ all_joined (carried (index_sites l.fn.names l.at l.pc) (l.row.handle ∷ l.row.arguments) l.count))
    × (l.count + length l.sites.items ≤ 1000000)
    × (l.names ≡ l.fn.names)
