-- Parts of chains.
use Rattle.std.specs.Prelude.{◌≡◌, List, [], ◌∷◌, ◌++◌, Option, Some, None, drop}
use Rattle.fcg_analysis.specs.NamesAndFlags.{first_of_list}
use Rattle.fcg_analysis.specs.Declarations.{Placed}
use Rattle.fcg_analysis.specs.Types.{chain}

-- from u on, the chain of t is the chain of u
pub record IsShared (types : List Placed) (t u : Placed) : Type 0 where
  pub nearer : List Placed
  pub whole : chain types t ≡ nearer ++ chain types u

-- o is the last of the chain of t
pub record EndsWith (types : List Placed) (t o : Placed) : Type 0 where
  pub nearer : List Placed
  pub whole : chain types t ≡ nearer ++ o ∷ []

-- the type after t in its chain
abbrev pub next_in_chain : List Placed → Placed → Option Placed
next_in_chain types t = first_of_list (drop 1 (chain types t))

-- the chain of a type, where there is one
abbrev pub chain_of : List Placed → Option Placed → List Placed
chain_of types None = []
chain_of types (Some t) = chain types t
