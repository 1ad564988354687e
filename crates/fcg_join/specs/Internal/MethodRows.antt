-- The methods of a part's types, by its views.
use Rattle.std.specs.Prelude.{◌≡◌, ℕ, List, length, Some, slice_get}
use Rattle.fcg_grammar.specs.Table.{place}
use Rattle.fcg_views.specs.declared.view.View.{View}
use Rattle.fcg_views.specs.declared.view.Method.{Method}
use Rattle.fcg_partial.specs.declared.row.MethodRow.{MethodRow}
use Rattle.fcg_partial.specs.Parts.{PartShown}
use Rattle.fcg_join.specs.declared.methods.MethodPlace.{MethodPlace}
use Rattle.fcg_join.specs.SetNames.{part_names}
use Rattle.fcg_join.specs.Internal.PartRows.{HasView}

-- m is the method at a place of the type at a place of a part
abbrev pub HasOwnMethod : PartShown → ℕ → ℕ → Method → Type 0
HasOwnMethod p k j m = (v : View) × HasView p k v × (slice_get v.methods j ≡ Some m)

abbrev pub row_of_own : PartShown → Method → MethodRow
row_of_own p m = record {
  name = place (part_names p) m.name;
  desc = place (part_names p) m.desc;
  flags = m.flags;
  sites = length m.sites;
}

-- m is the method at a place of some parts
pub record IsMethodPlace (parts : List PartShown) (at : MethodPlace) (m : Method) : Type 0 where
  pub part : PartShown
  pub part_is : slice_get parts at.part ≡ Some part
  pub method_is : HasOwnMethod part at.place at.index m
