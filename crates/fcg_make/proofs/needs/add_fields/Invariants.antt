use Rattle.std.proofs.Common.{◌≡◌, take}
use Rattle.std.specs.List.{flat_map}
use Rattle.fcg_make.specs.Entries.{added_all}
use Rattle.fcg_make.specs.Needs.{field_needs}
use Rattle.fcg_make.proofs.needs.add_fields.Given as goal

abbrev pub invariant-loop-field : goal.invariant-loop-field
invariant-loop-field l = l.table ≡ added_all l.fn.table (flat_map field_needs (take l.field-index l.fields))
