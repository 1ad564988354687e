use Rattle.std.specs.Prelude.{◌<◌, length, IfSome}
use Rattle.fcg_analysis.specs.Declarations.{Placed, Signature}
use Rattle.fcg_analysis.specs.Nodes.{declared}
use Rattle.fcg_join.specs.Parts.{types_of}
use Rattle.fcg_join.specs.Joined.{HasType}
use Rattle.fcg_join.specs.Numbers.{GivesSignature}
use Rattle.fcg_join.proofs.ChainWalks.{Walks, left}
use Rattle.fcg_resolve.proofs.found.find_in_chain.Given as goal

abbrev pub invariant-loop-at : goal.invariant-loop-at
invariant-loop-at l = record {
  known : IfSome l.at (λ t. t.0 < length (types_of l.joined));
  walks : (x : Placed) (sig : Signature) → HasType l.joined l.fn.start x → GivesSignature l.joined l.s sig → Walks l.joined (declared (types_of l.joined) sig) x l.at;
}

abbrev pub decreases-loop-at : goal.decreases-loop-at
decreases-loop-at l = left l.joined l.at
