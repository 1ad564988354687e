use Rattle.std.proofs.Common.{◌≡◌, length}
use Rattle.fcg_bytes.specs.Internal.Streams.{Wrote}
use Rattle.fcg_bytes.proofs.sink.write_whole.Given as goal

abbrev pub invariant-loop-rest : goal.invariant-loop-rest
invariant-loop-rest g l =
    Wrote (g.W.Sink.taken l.fn.sink) (g.W.Sink.taken l.sink) l.bytes l.rest
    × (g.W.Sink.faults l.sink ≡ g.W.Sink.faults l.fn.sink)
    × (g.W.Sink.aside l.sink ≡ g.W.Sink.aside l.fn.sink)

abbrev pub decreases-loop-rest : goal.decreases-loop-rest
decreases-loop-rest g l = length l.rest
