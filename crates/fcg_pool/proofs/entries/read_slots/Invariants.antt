use Rattle.std.proofs.Common.{◌≡◌, ◌-◌, ◌+◌, ◌≤◌, length, map, All}
use Rattle.fcg_grammar.specs.Rows.{rows}
use Rattle.fcg_classfile.specs.Breaks.Pool.{slot_at}
use Rattle.fcg_pool.specs.Internal.ConstantAt.{slot_in, IsInside}
use Rattle.fcg_pool.specs.Internal.Entry.{next_of, before_first}
use Rattle.fcg_grammar.proofs.RowLemmas.{with_front}
use Rattle.fcg_pool.proofs.entries.read_slots.Given as goal

abbrev pub invariant-loop-index : goal.invariant-loop-index
invariant-loop-index l =
    (with_front (map (slot_in l.bytes) l.places.items) (rows (slot_at l.bytes) (l.count - l.index) l.index (next_of l.next)) ≡ rows (slot_at l.bytes) (l.count - 1) 1 (before_first l.at))
    × (l.next.at ≤ length l.bytes)
    × All (IsInside l.bytes) l.places.items
    × (length l.places.items + 1 ≤ l.index)
    × (l.index ≤ 65535)
