-- The views of some parts, with their coordinates, and the types and methods that they have together.
use Rattle.std.specs.Prelude.{ℕ, ◌+◌, List, [], ◌∷◌, length, map, flat_map}
use Rattle.fcg_views.specs.declared.view.View.{View}
use Rattle.fcg_partial.specs.Parts.{PartShown}
use Rattle.fcg_analysis.specs.Declarations.{Placed}
use Rattle.fcg_analysis.specs.Types.{known}
use Rattle.fcg_analysis.specs.Nodes.{Node, nodes}

-- a view of a part
abbrev pub placed_view : PartShown → View → Placed
placed_view p v = record { coordinate = p.coordinate; view = v }

abbrev pub placed_of : PartShown → List Placed
placed_of p = map (placed_view p) p.views

-- the views of all parts, part after part
unfoldable pub placed : List PartShown → List Placed
placed parts = flat_map placed_of parts

-- how many views they have
unfoldable pub views_before : List PartShown → ℕ
views_before [] = 0
views_before (p ∷ ps) = length p.views + views_before ps

abbrev pub types_of : List PartShown → List Placed
types_of parts = known (placed parts)

abbrev pub nodes_of : List PartShown → List Node
nodes_of parts = nodes (types_of parts)
