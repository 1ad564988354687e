use Rattle.std.proofs.Common.{◌≡◌, ◌&&◌, drop}
use Rattle.std.specs.List.{list_all}
use Rattle.fcg_views.specs.Internal.EscapeTables.{table_of}
use Rattle.fcg_views.specs.Escape.{may_stand}
use Rattle.fcg_views.proofs.escaping.all_stand.Given as goal

abbrev pub invariant-loop-byte : goal.invariant-loop-byte
invariant-loop-byte l =
    ((l.all && list_all (may_stand l.fn.place) (drop l.byte-index l.bytes)) ≡ list_all (may_stand l.fn.place) l.bytes)
    × (l.table ≡ table_of l.fn.place)
