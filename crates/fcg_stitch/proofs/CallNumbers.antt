-- The number of the method that was found, where it passes a test.
use Rattle.std.proofs.Common.{◌≡◌, List, [], ◌∷◌, refl, sym, ap, ◌∙◌}
use Rattle.std.specs.Prelude.{Bool, true, false, cond, Option, Some, None}
use Rattle.fcg_partial.specs.Parts.{PartShown}
use Rattle.fcg_analysis.specs.Nodes.{Node}
use Rattle.fcg_analysis.specs.Resolution as rules
use Rattle.fcg_analysis.specs.Edges as edges
use Rattle.fcg_analysis.proofs.NodePlaces.{of_method_at}
use Rattle.fcg_join.specs.Parts.{types_of}
use Rattle.fcg_join.specs.declared.id.MethodId.{MethodId}
use Rattle.fcg_join.specs.declared.outcome.Outcome.TheVariants as outcomes
use Rattle.fcg_join.specs.Joined.{HasNode, GivesNode}
use Rattle.fcg_join.specs.Outcomes.{GivesOutcome}
use Rattle.fcg_stitch.specs.Targets.{number_where, method_of, array_target}
use Rattle.fcg_stitch.specs.Internal.Rows.{listed}

-- a node has its place for its number
pub number_of : (parts : List PartShown) (m : MethodId) (n : Node) → HasNode parts m n → m.0 ≡ n.number
number_of parts m n h = sym (of_method_at (types_of parts) m.0 n h).number

pub passing : (parts : List PartShown) (test : Node → Bool) (m : MethodId) (b : Bool) (o : Option Node) → GivesNode parts (Some m) o → ((n : Node) → HasNode parts m n → b ≡ test n) → b ≡ true → listed (Some m.0) ≡ number_where test o
passing parts test m b None g h e = absurd g
passing parts test m b (Some n) g h e =
    ap (λ k. k ∷ []) (number_of parts m n g) ∙ ap (λ w. cond w (n.number ∷ []) []) (sym e ∙ h n g)

pub failing : (parts : List PartShown) (test : Node → Bool) (m : MethodId) (b : Bool) (o : Option Node) → GivesNode parts (Some m) o → ((n : Node) → HasNode parts m n → b ≡ test n) → b ≡ false → [] ≡ number_where test o
failing parts test m b None g h e = absurd g
failing parts test m b (Some n) g h e = ap (λ w. cond w (n.number ∷ []) []) (sym e ∙ h n g)

pub resolved_method : (parts : List PartShown) (m : MethodId) (o : rules.Outcome) → GivesOutcome parts (outcomes.Method m) o → GivesNode parts (Some m) (method_of o)
resolved_method parts m (rules.Found n) g = g
resolved_method parts m rules.Phantom g = absurd g
resolved_method parts m (rules.Failed d) g = absurd g

-- the number of a method that a reference with an array owner stands for
pub fitting : (parts : List PartShown) (m : MethodId) (b : Bool) (o : rules.Outcome) (k : edges.Call) → GivesOutcome parts (outcomes.Method m) o
    → ((n : Node) → HasNode parts m n → o ≡ rules.Found n → array_target o k ≡ cond b (n.number ∷ []) []) → b ≡ true → listed (Some m.0) ≡ array_target o k
fitting parts m b (rules.Found n) k g h e =
    ap (λ j. j ∷ []) (number_of parts m n g) ∙ ap (λ w. cond w (n.number ∷ []) []) (sym e) ∙ sym (h n g refl)
fitting parts m b rules.Phantom k g h e = absurd g
fitting parts m b (rules.Failed d) k g h e = absurd g
