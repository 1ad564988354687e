use Rattle.std.proofs.Common.{◌≡◌, ◌+◌, ◌-◌, ◌^◌, ◌≤◌, drop}
use Rattle.std.specs.Prelude.{min}
use Rattle.fcg_partial.specs.Parts.{encoded_len}
use Rattle.fcg_stitch.proofs.stitching.count_bytes.Given as goal

abbrev pub invariant-loop-part : goal.invariant-loop-part
invariant-loop-part l = (l.bytes ≤ 2 ^ 64 - 1) × (min (l.bytes + encoded_len (drop l.part-index l.parts)) (2 ^ 64 - 1) ≡ min (encoded_len l.parts) (2 ^ 64 - 1))
