use Rattle.std.specs.Prelude.{◌<◌, length, Option, IfSome}
use Rattle.fcg_analysis.specs.Declarations.{Placed, is_type}
use Rattle.fcg_join.specs.Parts.{types_of}
use Rattle.fcg_join.specs.Joined.{HasType, GivesType}
use Rattle.fcg_select.proofs.Lines.{Lines, lines_left}
use Rattle.fcg_select.proofs.line.is_met.Given as goal

abbrev pub invariant-loop-at : goal.invariant-loop-at
invariant-loop-at l = record {
  known : IfSome l.at (λ t. t.0 < length (types_of l.joined));
  walks : (u : Placed) (o : Option Placed) → HasType l.joined l.class u → GivesType l.joined l.fn.start o → Lines l.joined (is_type u) o l.at;
}

abbrev pub decreases-loop-at : goal.decreases-loop-at
decreases-loop-at l = lines_left l.joined l.at
