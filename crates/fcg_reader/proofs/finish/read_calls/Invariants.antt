use Rattle.std.proofs.Common.{◌≡◌, ◌≤◌, ◌+◌, length, drop}
use Rattle.fcg_grammar.specs.Rows.{carried}
use Rattle.fcg_classfile.specs.Breaks.Bootstrap.{call_sites}
use Rattle.fcg_reader.specs.Internal.Handles.{all_joined}
use Rattle.fcg_reader.proofs.HandleLemmas.{with_joined}
use Rattle.fcg_reader.proofs.finish.read_calls.Given as goal

abbrev pub invariant-loop-call : goal.invariant-loop-call
invariant-loop-call l =
    (with_joined l.fn.bootstraps.pool l.sites.items (carried (call_sites l.fn.bootstraps.pool l.fn.bootstraps.rows l.calls.begin) (drop l.call-index l.calls.calls) (l.count + length l.sites.items))
    ≡ all_joined (carried (call_sites l.fn.bootstraps.pool l.fn.bootstraps.rows l.calls.begin) l.calls.calls l.count))
    × (l.count + length l.sites.items ≤ 1000000)
    × (l.bootstraps ≡ l.fn.bootstraps)
    × (l.names ≡ l.fn.names)
