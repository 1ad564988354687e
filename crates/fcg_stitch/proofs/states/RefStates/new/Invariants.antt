use Rattle.std.proofs.Common.{◌≡◌, length, replicate, take}
use Rattle.std.specs.Prelude.{None, map}
use Rattle.fcg_partial.specs.Views.{graph_of}
use Rattle.fcg_stitch.proofs.states.RefStates.new.Given as goal

abbrev pub invariant-loop-part : goal.invariant-loop-part
invariant-loop-part l = map (λ v. v.items) l.states.items ≡ map (λ p. replicate (length (graph_of p.views).refs) None) (take l.part-index l.parts)
