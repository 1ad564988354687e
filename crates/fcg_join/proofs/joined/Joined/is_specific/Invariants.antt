use Rattle.std.proofs.Common.{◌≡◌, take}
use Rattle.std.specs.Prelude.{Contains, true, false}
use Rattle.fcg_analysis.specs.Declarations.{Placed, Signature}
use Rattle.fcg_analysis.specs.Types.{is_above}
use Rattle.fcg_analysis.specs.Nodes.{Node, super_methods}
use Rattle.fcg_join.specs.Parts.{types_of}
use Rattle.fcg_join.specs.Joined.{HasType, HasNode}
use Rattle.fcg_join.specs.Numbers.{GivesSignature}
use Rattle.fcg_join.specs.Internal.Supers.{is_of_any}
use Rattle.fcg_join.proofs.joined.Joined.is_specific.Given as goal

abbrev pub invariant-loop-name : goal.invariant-loop-name
invariant-loop-name l =
    (x : Placed) (sig : Signature) (n : Node) → HasType l.self l.t x → GivesSignature l.self l.s sig → HasNode l.self l.m n → Contains (super_methods (types_of l.self) x sig) n
    → (o : Node) → Contains (super_methods (types_of l.self) x sig) o → is_of_any l.self (take l.name-index l.name-items) o ≡ true → is_above (types_of l.self) o.owner n.owner ≡ false
