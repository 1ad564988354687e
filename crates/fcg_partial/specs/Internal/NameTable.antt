-- The names that the views of a graph are made of.
use Rattle.std.specs.Prelude.{◌≡◌, ℕ, List}
use Rattle.fcg_partial.specs.Graph.{Graph, IsGraph}

-- a graph that is well formed, and the names of its table
pub record AreNames (g : Graph) (names : List (List ℕ)) : Type 0 where
  pub graph : IsGraph g
  pub names_are : names ≡ g.names
