use Rattle.std.specs.Prelude.{◌<◌, length, Option, IfSome}
use Rattle.fcg_analysis.specs.Declarations.{Placed, is_type}
use Rattle.fcg_analysis.specs.Nodes.{Node}
use Rattle.fcg_analysis.specs.Laws.HandedOn.{hands}
use Rattle.fcg_join.specs.Parts.{types_of}
use Rattle.fcg_join.specs.Joined.{HasNode, GivesType}
use Rattle.fcg_join.proofs.ChainWalks.{left}
use Rattle.fcg_select.proofs.Handing.{Meets}
use Rattle.fcg_select.proofs.overriding.is_handed_on.Given as goal

abbrev pub invariant-loop-at : goal.invariant-loop-at
invariant-loop-at l = record {
  known : IfSome l.at (λ t. t.0 < length (types_of l.joined));
  walks : (a : Node) → HasNode l.joined l.ma a → (o : Option Placed) → GivesType l.joined l.fn.start o → Meets l.joined (is_type a.owner) (hands (types_of l.joined) a) o l.met l.at;
}

abbrev pub decreases-loop-at : goal.decreases-loop-at
decreases-loop-at l = left l.joined l.at
