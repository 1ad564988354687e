use Rattle.std.proofs.Common.{◌≡◌, ◌++◌, take}
use Rattle.std.specs.List.{flat_map}
use Rattle.fcg_views.specs.NamesIn.{names_of_field}
use Rattle.fcg_partial.proofs.intern.push_field_names.Given as goal

abbrev pub invariant-loop-field : goal.invariant-loop-field
invariant-loop-field l = l.names ≡ l.fn.names ++ flat_map names_of_field (take l.field-index l.fields)
