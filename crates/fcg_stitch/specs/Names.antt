-- Nodes and their names.
use Rattle.std.specs.Prelude.{◌≡◌, ℕ, List, Option, Some, None, slice_get, Contains}
use Rattle.fcg_views.specs.declared.uri.MethodUri.{MethodUri}
use Rattle.fcg_partial.specs.Parts.{PartShown}
use Rattle.fcg_analysis.specs.Nodes.{Node, identity}
use Rattle.fcg_join.specs.Parts.{nodes_of}
use Rattle.fcg_stitch.specs.declared.stitched.NodeName.{NodeName}

-- n is the node of a number
abbrev pub IsNodeAt : List PartShown → ℕ → Node → Type 0
IsNodeAt parts k n = slice_get (nodes_of parts) k ≡ Some n

-- by this a node is named
pub record IsNameOf (given : NodeName) (n : Node) : Type 0 where
  pub coordinate : given.coordinate.now ≡ (identity n).coordinate
  pub class : given.class.now ≡ (identity n).class
  pub name : given.name.now ≡ (identity n).name
  pub desc : given.desc.now ≡ (identity n).desc

-- what is found: the number of the node that is named so, and none where none is
abbrev pub GivesNamed : List PartShown → Option ℕ → MethodUri → Type 0
GivesNamed parts None uri = (n : Node) → Contains (nodes_of parts) n → identity n ≡ uri → ⊥
GivesNamed parts (Some k) uri = (n : Node) × IsNodeAt parts k n × (identity n ≡ uri)
