use Rattle.std.proofs.Common.{take}
use Rattle.fcg_views.specs.Escape.{escaped}
use Rattle.fcg_top.specs.Internal.Buffered.{Sends, sink_told}
use Rattle.fcg_top.proofs.text_buffer.TextBuffer.write_escaped.Given as goal

abbrev pub invariant-loop-byte : goal.invariant-loop-byte
invariant-loop-byte g l = Sends (sink_told (g.W.Sink.taken l.fn.sink) (g.W.Sink.faults l.fn.sink) (g.W.Sink.aside l.fn.sink)) l.fn.self (sink_told (g.W.Sink.taken l.sink) (g.W.Sink.faults l.sink) (g.W.Sink.aside l.sink)) l.self (escaped l.place (take l.byte-index l.bytes))
