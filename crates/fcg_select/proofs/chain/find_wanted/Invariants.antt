use Rattle.std.specs.Prelude.{◌<◌, length, IfSome}
use Rattle.fcg_analysis.specs.Declarations.{Placed, Signature}
use Rattle.fcg_analysis.specs.Nodes.{declared}
use Rattle.fcg_analysis.specs.Laws.HandedOn.{where_passes}
use Rattle.fcg_join.specs.Parts.{types_of}
use Rattle.fcg_join.specs.Joined.{HasType}
use Rattle.fcg_join.specs.Numbers.{GivesSignature}
use Rattle.fcg_select.specs.Internal.Wanted.{is_wanted}
use Rattle.fcg_join.proofs.ChainWalks.{Walks, left}
use Rattle.fcg_select.proofs.chain.find_wanted.Given as goal

abbrev pub invariant-loop-at : goal.invariant-loop-at
invariant-loop-at l = record {
  known : IfSome l.at (λ t. t.0 < length (types_of l.joined));
  walks : (x : Placed) (sig : Signature) → HasType l.joined l.fn.start x → GivesSignature l.joined l.s sig → Walks l.joined (λ t. where_passes (is_wanted l.joined l.wanted) (declared (types_of l.joined) sig t)) x l.at;
}

abbrev pub decreases-loop-at : goal.decreases-loop-at
decreases-loop-at l = left l.joined l.at
