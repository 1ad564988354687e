use Rattle.std.proofs.Common.{◌≡◌, ℕ, List, ◌++◌, length}
use Rattle.fcg_views.specs.Escape.{escaped}
use Rattle.fcg_top.specs.Internal.Buffered.{Sends, sink_told}
use Rattle.fcg_top.proofs.text_buffer.TextBuffer.push_name.Given as goal

abbrev pub invariant-loop-rest : goal.invariant-loop-rest
invariant-loop-rest g l = (done : List ℕ) × (l.name ≡ done ++ l.rest) × Sends (sink_told (g.W.Sink.taken l.fn.sink) (g.W.Sink.faults l.fn.sink) (g.W.Sink.aside l.fn.sink)) l.fn.self (sink_told (g.W.Sink.taken l.sink) (g.W.Sink.faults l.sink) (g.W.Sink.aside l.sink)) l.self (escaped l.place done)

abbrev pub decreases-loop-rest : goal.decreases-loop-rest
decreases-loop-rest g l = length l.rest
