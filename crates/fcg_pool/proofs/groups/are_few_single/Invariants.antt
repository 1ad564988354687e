use Rattle.std.proofs.Common.{◌≡◌, ◌&&◌, drop}
use Rattle.std.specs.List.{list_all}
use Rattle.fcg_classfile.specs.Breaks.Groups.{is_single}
use Rattle.fcg_pool.proofs.groups.are_few_single.Given as goal

abbrev pub invariant-loop-byte : goal.invariant-loop-byte
invariant-loop-byte l = (l.single && list_all is_single (drop l.byte-index l.bytes)) ≡ list_all is_single l.bytes
