-- Names and signatures by the numbers of a set.
use Rattle.std.specs.Prelude.{◌≡◌, ℕ, List, [], ◌∷◌, Contains, Option, Some, None, false, map, slice_get, slice_index_or}
use Rattle.fcg_grammar.specs.Table.{table, place}
use Rattle.fcg_views.specs.declared.view.Method.{Method}
use Rattle.fcg_views.specs.declared.view.Ref.{Ref}
use Rattle.fcg_partial.specs.Parts.{PartShown}
use Rattle.fcg_analysis.specs.Declarations.{Signature, has_signature}
use Rattle.fcg_analysis.specs.Nodes.{Node}
use Rattle.fcg_join.specs.declared.id.NameId.{NameId}
use Rattle.fcg_join.specs.declared.id.SignatureId.{SignatureId}
use Rattle.fcg_join.specs.declared.id.NumberedRef.{NumberedRef}
use Rattle.fcg_join.specs.Names.{text_at}
use Rattle.fcg_join.specs.Parts.{nodes_of}
use Rattle.fcg_join.specs.SetNames.{set_names}
use Rattle.fcg_join.specs.Joined.{signature}

-- n is the name of a number
abbrev pub HasName : List PartShown → NameId → List ℕ → Type 0
HasName parts id n = slice_get (set_names parts) id.0 ≡ Some n

-- what is found: the number of the name, and none where no part has the name
abbrev pub GivesName : List PartShown → Option NameId → List ℕ → Type 0
GivesName parts None n = Contains (set_names parts) n → ⊥
GivesName parts (Some id) n = HasName parts id n

-- the numbers of a method's name and of its descriptor
abbrev pub signature_key : List (List ℕ) → Method → List ℕ
signature_key names m = place names m.name ∷ place names m.desc ∷ []

abbrev pub signature_of_key : List (List ℕ) → List ℕ → Signature
signature_of_key names key = signature (text_at names (slice_index_or key 0 0)) (text_at names (slice_index_or key 1 0))

-- the signatures of the nodes, each once, in the order of their names, and of one name in that of the descriptors
unfoldable pub set_signatures : List PartShown → List Signature
set_signatures parts = map (signature_of_key (set_names parts)) (table (map (λ m. signature_key (set_names parts) m.method) (nodes_of parts)))

-- s is the signature of a number
abbrev pub HasSignature : List PartShown → SignatureId → Signature → Type 0
HasSignature parts id s = slice_get (set_signatures parts) id.0 ≡ Some s

-- what is found: the number of the signature, and none where no node has the signature
abbrev pub GivesSignature : List PartShown → Option SignatureId → Signature → Type 0
GivesSignature parts None s = (m : Node) → Contains (nodes_of parts) m → has_signature s m.method ≡ false
GivesSignature parts (Some id) s = HasSignature parts id s

-- the names of a reference have these numbers
pub record HasRef (parts : List PartShown) (r : NumberedRef) (reference : Ref) : Type 0 where
  pub owner : HasName parts r.owner reference.owner
  pub kind : r.owner_is_interface_ref ≡ reference.owner_is_interface_ref
  pub name : HasName parts r.name reference.name
  pub desc : HasName parts r.desc reference.desc
