use Rattle.std.proofs.Common.{◌≡◌, ◌+◌, drop}
use Rattle.fcg_partial.specs.Parts.{encoded_len}
use Rattle.fcg_join.proofs.joined.Joined.fits.Given as goal

abbrev pub invariant-loop-part : goal.invariant-loop-part
invariant-loop-part l = encoded_len l.parts + l.left ≡ encoded_len (drop l.part-index l.parts) + 268435456
