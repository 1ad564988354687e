use Rattle.std.proofs.Common.{take}
use Rattle.std.specs.List.{flat_map}
use Rattle.fcg_top.specs.Text.{method_site_lines}
use Rattle.fcg_top.specs.Internal.Buffered.{Sends, sink_told}
use Rattle.fcg_top.proofs.text.push_view_sites.Given as goal

abbrev pub invariant-loop-method : goal.invariant-loop-method
invariant-loop-method g l = Sends (sink_told (g.W.Sink.taken l.fn.sink) (g.W.Sink.faults l.fn.sink) (g.W.Sink.aside l.fn.sink)) l.fn.out (sink_told (g.W.Sink.taken l.sink) (g.W.Sink.faults l.sink) (g.W.Sink.aside l.sink)) l.out (flat_map (method_site_lines l.view) (take l.method-index l.view.methods))
