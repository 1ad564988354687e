use Rattle.std.proofs.Common.{◌<◌, length, take}
use Rattle.std.specs.Prelude.{IfSome}
use Rattle.fcg_analysis.specs.Declarations.{Placed, Signature}
use Rattle.fcg_analysis.specs.Nodes.{super_methods}
use Rattle.fcg_join.specs.Parts.{types_of, nodes_of}
use Rattle.fcg_join.specs.Joined.{HasType}
use Rattle.fcg_join.specs.Numbers.{GivesSignature}
use Rattle.fcg_join.specs.Internal.Supers.{is_of_any, IsLeast}
use Rattle.fcg_join.proofs.joined.Joined.first_above_as.Given as goal

abbrev pub invariant-loop-name : goal.invariant-loop-name
invariant-loop-name l =
    ((x : Placed) (sig : Signature) → HasType l.self l.t x → GivesSignature l.self l.s sig → IsLeast l.self (super_methods (types_of l.self) x sig) (is_of_any l.self (take l.name-index l.name-items)) l.first)
    × IfSome l.first (λ m. m.0 < length (nodes_of l.self))
