use Rattle.std.proofs.Common.{take}
use Rattle.std.specs.List.{flat_map}
use Rattle.fcg_top.specs.Text.{view_site_lines}
use Rattle.fcg_top.specs.Internal.Buffered.{Sends, sink_told}
use Rattle.fcg_top.proofs.text.push_lines.Given as goal

abbrev pub invariant-loop-view : goal.invariant-loop-view
invariant-loop-view g l = Sends (sink_told (g.W.Sink.taken l.fn.sink) (g.W.Sink.faults l.fn.sink) (g.W.Sink.aside l.fn.sink)) l.fn.out (sink_told (g.W.Sink.taken l.sink) (g.W.Sink.faults l.sink) (g.W.Sink.aside l.sink)) l.out (flat_map view_site_lines (take l.view-index l.views))
