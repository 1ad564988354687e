use Rattle.std.proofs.Common.{◌≡◌, take}
use Rattle.std.specs.List.{flat_map}
use Rattle.fcg_make.specs.Entries.{added_all}
use Rattle.fcg_make.specs.Needs.{handle_needs}
use Rattle.fcg_make.proofs.needs.add_handles.Given as goal

abbrev pub invariant-loop-site : goal.invariant-loop-site
invariant-loop-site l = l.table ≡ added_all l.fn.table (flat_map handle_needs (take l.site-index l.sites))
