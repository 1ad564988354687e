use Rattle.std.proofs.Common.{◌≡◌, take}
use Rattle.std.specs.Prelude.{map}
use Rattle.fcg_join.specs.Parts.{nodes_of}
use Rattle.fcg_join.specs.SetNames.{set_names}
use Rattle.fcg_join.specs.Internal.Signatures.{key_of}
use Rattle.fcg_join.proofs.signatures.make_keys.Given as goal

abbrev pub invariant-loop-m : goal.invariant-loop-m
invariant-loop-m l = l.keys.items ≡ map (key_of (set_names l.parts)) (take l.m (nodes_of l.parts))
