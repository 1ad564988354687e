use Rattle.std.proofs.Common.{take}
use Rattle.std.specs.List.{flat_map}
use Rattle.fcg_top.specs.Text.{site_line}
use Rattle.fcg_top.specs.Internal.Buffered.{Sends, sink_told}
use Rattle.fcg_top.proofs.text.push_method_sites.Given as goal

abbrev pub invariant-loop-site : goal.invariant-loop-site
invariant-loop-site g l = Sends (sink_told (g.W.Sink.taken l.fn.sink) (g.W.Sink.faults l.fn.sink) (g.W.Sink.aside l.fn.sink)) l.fn.out (sink_told (g.W.Sink.taken l.sink) (g.W.Sink.faults l.sink) (g.W.Sink.aside l.sink)) l.out (flat_map (site_line l.view l.method) (take l.site-index l.method.sites))
