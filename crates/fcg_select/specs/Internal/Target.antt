-- What a special call names, by numbers, and what it looks for.
use Rattle.std.specs.Prelude.{◌≡◌, ◌<◌, ℕ, List, Bool, Option, None, IfSome, length, if◌then◌else◌}
use Rattle.fcg_views.specs.declared.view.Ref.{Ref}
use Rattle.fcg_partial.specs.Parts.{PartShown}
use Rattle.fcg_analysis.specs.NamesAndFlags.{contains, or_else}
use Rattle.fcg_analysis.specs.Declarations.{Placed, Signature, signature_in, is_interface, superclass_names}
use Rattle.fcg_analysis.specs.Types.{type_named}
use Rattle.fcg_analysis.specs.Nodes.{Node, one_default}
use Rattle.fcg_analysis.specs.Resolution.{public_of_object}
use Rattle.fcg_analysis.specs.Special.{is_init}
use Rattle.fcg_select.specs.declared.special_call.Target.{Target}
use Rattle.fcg_join.specs.Parts.{types_of}
use Rattle.fcg_join.specs.Joined.{GivesType}
use Rattle.fcg_join.specs.Numbers.{set_signatures, GivesName, GivesSignature}

-- the reference names these
pub record IsTarget (parts : List PartShown) (target : Target) (r : Ref) : Type 0 where
  pub owner : GivesType parts target.owner (type_named (types_of parts) r.owner)
  pub owner_name : GivesName parts target.owner_name r.owner
  pub kind : target.by_interface ≡ r.owner_is_interface_ref
  pub init : target.is_init ≡ is_init r
  pub signature : GivesSignature parts target.signature (signature_in r)

-- the numbers are those of types and signatures
pub record IsInRange (parts : List PartShown) (target : Target) : Type 0 where
  pub owner : IfSome target.owner (λ t. t.0 < length (types_of parts))
  pub signature : IfSome target.signature (λ s. s.0 < length (set_signatures parts))

-- the type uses the name as its superclass
abbrev pub uses_superclass : List ℕ → Placed → Bool
uses_superclass n t = contains n (superclass_names t)

-- what a search takes past the chain of its start
abbrev pub past_chain : List Placed → Signature → Placed → Option Node
past_chain types s start = or_else (if is_interface start then public_of_object types s else None) (one_default types start s)
