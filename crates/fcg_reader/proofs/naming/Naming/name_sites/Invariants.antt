use Rattle.std.proofs.Common.{◌≡◌, map, take}
use Rattle.std.specs.List.{flat_map}
use Rattle.fcg_views.specs.NamesIn.{names_of_site}
use Rattle.fcg_reader.specs.Internal.Rows.{site_in}
use Rattle.fcg_reader.specs.Internal.Naming.{NamesMore}
use Rattle.fcg_reader.proofs.naming.Naming.name_sites.Given as goal

abbrev pub invariant-loop-row : goal.invariant-loop-row
invariant-loop-row l =
    (l.sites.items ≡ map (site_in l.fn.self.pool) (take l.row-index l.rows))
    × NamesMore l.fn.self l.self (flat_map names_of_site l.sites.items)
