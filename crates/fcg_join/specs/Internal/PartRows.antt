-- The rows of a part's types, by its views.
use Rattle.std.specs.Prelude.{◌≡◌, ℕ, length, Some, slice_get}
use Rattle.fcg_views.specs.declared.view.View.{View}
use Rattle.fcg_partial.specs.declared.row.TypeRow.{TypeRow}
use Rattle.fcg_partial.specs.Parts.{PartShown}
use Rattle.fcg_partial.specs.Views.{super_number_of}
use Rattle.fcg_grammar.specs.Table.{place}
use Rattle.fcg_join.specs.SetNames.{part_names}

-- v is the view at a place of a part
abbrev pub HasView : PartShown → ℕ → View → Type 0
HasView p k v = slice_get p.views k ≡ Some v

abbrev pub row_of_view : PartShown → View → TypeRow
row_of_view p v = record {
  name = place (part_names p) v.name;
  flags = v.flags;
  superclass = super_number_of (part_names p) v.superclass;
  interfaces = length v.interfaces;
  fields = length v.fields;
  methods = length v.methods;
}
