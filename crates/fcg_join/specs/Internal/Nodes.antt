-- The tables of nodes.
use Rattle.std.specs.Prelude.{◌≡◌, ℕ, List, length, map}
use Rattle.fcg_analysis.specs.Declarations.{Placed}
use Rattle.fcg_join.specs.declared.heads.TypeHead.{TypeHead}
use Rattle.fcg_join.specs.NodeTables.{first_nodes, owners}

-- the types have as many methods
abbrev pub HaveMethods : List TypeHead → List Placed → Type 0
HaveMethods heads types = map (λ h. h.methods) heads ≡ map (λ t. length t.view.methods) types

pub record AreNodeTables (types : List Placed) (first_numbers owner_numbers : List ℕ) : Type 0 where
  pub firsts_are : first_numbers ≡ first_nodes types
  pub owners_are : owner_numbers ≡ owners types
