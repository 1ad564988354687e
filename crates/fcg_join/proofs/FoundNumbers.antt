-- What is known of the type, of the node, or of the name of a number that was found.
use Rattle.std.proofs.Common.{◌≡◌, ℕ, ◌<◌, List, length, refl, sym, subst, ◌∙◌}
use Rattle.std.specs.Prelude.{Option, Some, None, Contains, slice_get}
use Rattle.std.proofs.lemmas.Option.{slice_get_within, get_or_from_slice_get, same_Some}
use Rattle.fcg_views.specs.declared.view.Ref.{Ref}
use Rattle.fcg_partial.specs.Parts.{PartShown}
use Rattle.fcg_analysis.specs.Declarations.{Placed, Signature, signature_in}
use Rattle.fcg_analysis.specs.Nodes.{Node}
use Rattle.fcg_join.specs.declared.id.TypeId.{TypeId}
use Rattle.fcg_join.specs.declared.id.MethodId.{MethodId}
use Rattle.fcg_join.specs.declared.id.NameId.{NameId}
use Rattle.fcg_join.specs.declared.id.SignatureId.{SignatureId}
use Rattle.fcg_join.specs.Parts.{types_of, nodes_of}
use Rattle.fcg_join.specs.Joined.{HasType, HasNode, GivesType, GivesNode, signature}
use Rattle.fcg_join.specs.Numbers.{HasName, HasSignature, GivesSignature}
use Rattle.fcg_join.proofs.GraphRows.{item}
use Rattle.fcg_join.proofs.Places.{has_in}

-- ---- types

pub type_there : (parts : List PartShown) (t : TypeId) (o : Option Placed) → GivesType parts (Some t) o → (x : Placed) × (o ≡ Some x) × HasType parts t x
type_there parts t None h = absurd h
type_there parts t (Some x) h = (x, refl, h)

pub no_type : (parts : List PartShown) (o : Option Placed) → GivesType parts None o → o ≡ None
no_type parts None h = refl
no_type parts (Some x) h = absurd h

pub type_at : (parts : List PartShown) (t : TypeId) → t.0 < length (types_of parts) → (x : Placed) × HasType parts t x
type_at parts t h = let x = item (types_of parts) t.0 h in (x.0, x.1)

pub type_known : (parts : List PartShown) (t : TypeId) (x : Placed) → HasType parts t x → Contains (types_of parts) x
type_known parts t x h = has_in (types_of parts) t.0 x h

-- ---- nodes

pub node_there : (parts : List PartShown) (m : MethodId) (o : Option Node) → GivesNode parts (Some m) o → (n : Node) × (o ≡ Some n) × HasNode parts m n
node_there parts m None h = absurd h
node_there parts m (Some n) h = (n, refl, h)

pub no_node : (parts : List PartShown) (o : Option Node) → GivesNode parts None o → o ≡ None
no_node parts None h = refl
no_node parts (Some n) h = absurd h

pub node_known : (parts : List PartShown) (m : MethodId) (n : Node) → HasNode parts m n → Contains (nodes_of parts) n
node_known parts m n h = (m.0, slice_get_within (nodes_of parts) m.0 n h, get_or_from_slice_get (nodes_of parts) m.0 n n h)

-- ---- names and signatures

pub one_name : (parts : List PartShown) (id : NameId) (n m : List ℕ) → HasName parts id n → HasName parts id m → n ≡ m
one_name parts id n m h k = same_Some n m (sym h ∙ k)

pub one_signature : (parts : List PartShown) (id : SignatureId) (s r : Signature) → HasSignature parts id s → HasSignature parts id r → s ≡ r
one_signature parts id s r h k = same_Some s r (sym h ∙ k)

pub signature_named : (parts : List PartShown) (s : Option SignatureId) (n d : List ℕ) (r : Ref) → n ≡ r.name → d ≡ r.desc → GivesSignature parts s (signature n d) → GivesSignature parts s (signature_in r)
signature_named parts s n d r p q g =
    let e : signature n d ≡ signature_in r = λ i. record { name = p i; desc = q i } in subst (λ v. GivesSignature parts s v) e g
