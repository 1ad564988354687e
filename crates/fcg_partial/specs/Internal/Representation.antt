-- What a kept graph is.
use Rattle.std.specs.Prelude.{◌≡◌, ℕ, ◌+◌, ◌<◌, ◌^◌, List, length, map, replicate, Bool, false, Result, Ok, Err}
use Rattle.std.specs.List.{AllByRecursion}
use Rattle.fcg_grammar.specs.declared.error.ReadError.{ReadError}
use Rattle.fcg_grammar.specs.Reading.{Fails}
use Rattle.fcg_grammar.specs.Spell.{IsBytes}
use Rattle.fcg_partial.specs.declared.fault.RecordFault.{RecordFault}
use Rattle.fcg_partial.specs.declared.index.Index.{Index}
use Rattle.fcg_partial.specs.declared.types.Places.{Places}
use Rattle.fcg_partial.specs.Graph.{Graph}
use Rattle.fcg_partial.specs.Reading.{graph_at, names_at, refs_at}
use Rattle.fcg_partial.specs.Internal.RowPlaces.{text_at, HasText, Follow, first_row}
use Rattle.fcg_partial.specs.Internal.UsedNumbers.{ArePlaces, Marked, refs_read, refs_uses}
use Rattle.fcg_partial.specs.Fault.{u2_at, u4_at}

-- The bytes are a stored graph, and these are the places of its names, of the count of its references, of its types and
-- of its methods.
pub record IsIndex (bytes names : List ℕ) (refs : ℕ) (places : Places) : Type 0 where
  pub graph : Graph
  pub read : graph_at bytes ≡ Ok graph
  pub names_are : map (text_at bytes) names ≡ graph.names
  pub texts : AllByRecursion (HasText bytes) names
  pub after_refs : ℕ
  pub refs_are : refs_at bytes (length graph.names) refs ≡ Ok (graph.refs, after_refs)
  pub types_are : ArePlaces bytes (length graph.names) (length graph.refs) places.types.items places.firsts.items places.methods.items graph.types

-- The places, or the first fault.
abbrev pub GivesPlaces : List ℕ → List ℕ → ℕ → Result Places (ReadError RecordFault) → Type 0
GivesPlaces bytes names refs (Ok places) = IsIndex bytes names refs places
GivesPlaces bytes names refs (Err e) = Fails e (graph_at bytes)

abbrev pub GivesIndex : List ℕ → Result Index (ReadError RecordFault) → Type 0
GivesIndex bytes (Ok index) = IsIndex bytes index.names.items index.refs index.places
GivesIndex bytes (Err e) = Fails e (graph_at bytes)

-- The names were read, and the references come next.
pub record HasNames (bytes names : List ℕ) (refs : ℕ) : Type 0 where
  pub magic : u4_at bytes 0 ≡ Ok 0x46434752
  pub version : u2_at bytes 4 ≡ Ok 1
  pub names_are : names_at bytes 6 ≡ Ok (map (text_at bytes) names, refs)
  pub texts : AllByRecursion (HasText bytes) names
  pub follow : Follow bytes 10 names refs

-- no name is used yet
abbrev pub no_marks : List ℕ → List ℕ → List Bool
no_marks bytes names = replicate (length (map (text_at bytes) names)) false

-- The references were read, with their marks, and the types come next.
pub record HasRefs (bytes names : List ℕ) (refs after : ℕ) (used : List Bool) (count : ℕ) : Type 0 where
  pub count_is : u4_at bytes refs ≡ Ok count
  pub read : Marked refs_uses (refs_read bytes (length (map (text_at bytes) names)) count (first_row (refs + 4))) (no_marks bytes names) after used

pub record IsKept (bytes : List ℕ) (index : Index) : Type 0 where
  pub are : IsBytes bytes
  pub small : length bytes < 2 ^ 32
  pub indexed : IsIndex bytes index.names.items index.refs index.places
