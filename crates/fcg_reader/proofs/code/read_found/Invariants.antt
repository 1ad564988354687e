use Rattle.std.proofs.Common.{◌≡◌, ◌+◌, ◌-◌, ◌≤◌, length}
use Rattle.fcg_classfile.specs.Breaks.Code.{found_of}
use Rattle.fcg_reader.specs.Internal.Calls.{ArePlaced, found_in}
use Rattle.fcg_reader.proofs.CodeLemmas.{FoundLeft}
use Rattle.fcg_reader.proofs.code.read_found.Given as goal

abbrev pub invariant-loop-pc : goal.invariant-loop-pc
invariant-loop-pc l =
    FoundLeft l.fn.names l.code.begin l.code.bytes.now l.count l.pc (found_in l.fn.names (record { sites = l.sites.items; calls = l.calls.items })) (found_of l.fn.names l.code.begin l.code.bytes.now l.count)
    × (l.pc ≤ length l.code.bytes.now)
    × (l.count + length l.sites.items ≤ 1000000)
    × ArePlaced l.code.begin l.calls.items
    × (l.names ≡ l.fn.names)

abbrev pub decreases-loop-pc : goal.decreases-loop-pc
decreases-loop-pc l = length l.code.bytes.now - l.pc
