use Rattle.std.proofs.Common.{◌≡◌, take}
use Rattle.std.specs.List.{flat_map}
use Rattle.fcg_make.specs.Entries.{added_all}
use Rattle.fcg_make.specs.Needs.{row_needs}
use Rattle.fcg_make.proofs.needs.add_row_list.Given as goal

abbrev pub invariant-loop-row : goal.invariant-loop-row
invariant-loop-row l = l.table ≡ added_all l.fn.table (flat_map row_needs (take l.row-index l.rows))
