use Rattle.std.proofs.Common.{◌≡◌, ◌≤◌, length, map, sum_by}
use Rattle.std.specs.Vec.Iter.{into_iter_items, into_iter_len}
use Rattle.fcg_grammar.specs.Rows.{carried}
use Rattle.fcg_grammar.proofs.RowLemmas.{with_front}
use Rattle.fcg_classfile.specs.Breaks.Members.{finished}
use Rattle.fcg_reader.specs.Internal.Rows.{method_in}
use Rattle.fcg_reader.specs.Internal.Calls.{all_unfinished_in}
use Rattle.fcg_reader.specs.Internal.Handles.{bootstraps}
use Rattle.fcg_reader.proofs.finish.finish_methods.Given as goal

abbrev pub invariant-loop-unfinished : goal.invariant-loop-unfinished
invariant-loop-unfinished l =
    (with_front (map (method_in l.fn.names) l.done.items) (carried (finished l.fn.names l.fn.rows.items) (all_unfinished_in l.fn.names (into_iter_items l.unfinished-iterator)) l.count)
    ≡ carried (finished l.fn.names l.fn.rows.items) (all_unfinished_in l.fn.names l.fn.methods.items) (sum_by (λ m. length m.0.sites) (all_unfinished_in l.fn.names l.fn.methods.items)))
    × (into_iter_len l.unfinished-iterator ≡ length (into_iter_items l.unfinished-iterator))
    × (l.count ≤ 1000000)
    × (l.bootstraps ≡ bootstraps l.fn.names l.fn.rows.items)
    × (l.names ≡ l.fn.names)
