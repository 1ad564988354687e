use Rattle.std.specs.Prelude.{◌<◌, ℕ, List, length, Option, IfSome}
use Rattle.fcg_analysis.specs.Declarations.{Placed}
use Rattle.fcg_join.specs.Parts.{types_of}
use Rattle.fcg_join.specs.Joined.{GivesType}
use Rattle.fcg_join.specs.Numbers.{GivesName}
use Rattle.fcg_select.specs.Internal.Target.{uses_superclass}
use Rattle.fcg_select.proofs.Lines.{Lines, lines_left}
use Rattle.fcg_select.proofs.line.is_used.Given as goal

abbrev pub invariant-loop-at : goal.invariant-loop-at
invariant-loop-at l = record {
  known : IfSome l.at (λ t. t.0 < length (types_of l.joined));
  walks : (n : List ℕ) (o : Option Placed) → GivesName l.joined l.name n → GivesType l.joined l.fn.start o → Lines l.joined (uses_superclass n) o l.at;
}

abbrev pub decreases-loop-at : goal.decreases-loop-at
decreases-loop-at l = lines_left l.joined l.at
