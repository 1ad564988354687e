-- What is asked of the outcome for which a method is selected.
use Rattle.std.specs.Prelude.{◌≡◌, List, Option, true, ⊤}
use Rattle.fcg_partial.specs.Parts.{PartShown}
use Rattle.fcg_analysis.specs.Declarations.{Signature, is_instance, signature_of, has_signature}
use Rattle.fcg_analysis.specs.Nodes.{Node}
use Rattle.fcg_join.specs.declared.id.SignatureId.{SignatureId}
use Rattle.fcg_join.specs.declared.outcome.Outcome.{Outcome}
use Rattle.fcg_join.specs.declared.outcome.Outcome.TheVariants as outcomes
use Rattle.fcg_join.specs.Joined.{HasNode}
use Rattle.fcg_join.specs.Numbers.{GivesSignature}

-- where it is a method, it is an instance method of the signature
abbrev pub IsInstanceOf : List PartShown → Outcome → Signature → Type 0
IsInstanceOf parts (outcomes.Method m) sig = (n : Node) → HasNode parts m n → (is_instance n.method ≡ true) × (has_signature sig n.method ≡ true)
IsInstanceOf parts outcomes.Phantom sig = ⊤
IsInstanceOf parts (outcomes.Failed c) sig = ⊤

-- the same by the number of the signature
abbrev pub IsInstanceAs : List PartShown → Outcome → Option SignatureId → Type 0
IsInstanceAs parts (outcomes.Method m) s = (n : Node) → HasNode parts m n → (is_instance n.method ≡ true) × GivesSignature parts s (signature_of n.method)
IsInstanceAs parts outcomes.Phantom s = ⊤
IsInstanceAs parts (outcomes.Failed c) s = ⊤
