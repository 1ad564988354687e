use Rattle.std.proofs.Common.{◌≡◌, map, take}
use Rattle.fcg_reader.specs.Internal.Rows.{text_in}
use Rattle.fcg_reader.specs.Internal.Naming.{NamesMore}
use Rattle.fcg_reader.proofs.naming.Naming.name_interfaces.Given as goal

abbrev pub invariant-loop-index : goal.invariant-loop-index
invariant-loop-index l =
    (l.names.items ≡ map (text_in l.fn.self.pool) (take l.index-index l.indexes))
    × NamesMore l.fn.self l.self l.names.items
