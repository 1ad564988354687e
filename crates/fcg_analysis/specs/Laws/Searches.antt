-- References of the wrong kind, and what a search finds.
use Rattle.std.specs.Prelude.{◌≡◌, true, false, List, ◌∷◌, ◌++◌, Some, Contains, Bool}
use Rattle.std.specs.List.{list_any}
use Rattle.fcg_views.specs.declared.view.Ref.{Ref}
use Rattle.fcg_views.specs.declared.view.Site.{Site}
use Rattle.fcg_analysis.specs.Declarations.{Placed, signature_in, is_type, is_class, is_interface, has_array_owner}
use Rattle.fcg_analysis.specs.Types.{type_named}
use Rattle.fcg_analysis.specs.Nodes.{Node, nodes, is_node}
use Rattle.fcg_analysis.specs.Resolution.{resolved}
use Rattle.fcg_analysis.specs.Selection.{selected}
use Rattle.fcg_analysis.specs.Edges.{is_receiver}

-- the owner is known, and is a class where the reference is an InterfaceMethodref, or an interface where it is a Methodref
pub record IsMismatch (types : List Placed) (r : Ref) : Type 0 where
  pub owner : Placed
  pub known' : type_named types r.owner ≡ Some owner
  pub kind : is_class owner ≡ r.owner_is_interface_ref

-- t is the known owner of the reference, and of its kind
pub record HasOwner (types : List Placed) (r : Ref) (t : Placed) : Type 0 where
  pub no_array : has_array_owner r ≡ false
  pub known' : type_named types r.owner ≡ Some t
  pub kind : is_interface t ≡ r.owner_is_interface_ref

-- c is of the first type of the line that declares a method which passes
pub record IsFirst (types : List Placed) (test : Node → Bool) (line : List Placed) (c : Node) : Type 0 where
  pub nearer : List Placed
  pub type : Placed
  pub farther : List Placed
  pub whole : line ≡ nearer ++ type ∷ farther
  pub node_in : Contains (nodes types) c
  pub owner : is_type type c.owner ≡ true
  pub passes : test c ≡ true
  pub none_nearer : (n : Node) → Contains (nodes types) n → test n ≡ true → list_any (λ t. is_type t n.owner) nearer ≡ false

-- a receiver of the site for which b is selected
pub record HasReceiver (types : List Placed) (site : Site) (b : Node) : Type 0 where
  pub receiver : Placed
  pub receiver_in : Contains types receiver
  pub receives : is_receiver types site.target.owner receiver ≡ true
  pub target : Node
  pub selected' : selected types receiver (resolved types site.target) (signature_in site.target) ≡ Some target
  pub number : is_node b target ≡ true
