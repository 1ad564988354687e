use Rattle.std.proofs.Common.{◌≡◌, ◌+◌, ◌*◌, ◌≤◌, length}
use Rattle.fcg_partial.specs.Reading.{ref_at}
use Rattle.fcg_partial.specs.Graph.{ref_uses}
use Rattle.fcg_partial.specs.Internal.RowPlaces.{first_row}
use Rattle.fcg_partial.proofs.MarkRows.{MarkedRows}
use Rattle.fcg_partial.proofs.refs.read_refs.Given as goal

abbrev pub invariant-loop : goal.invariant-loop
invariant-loop l = record {
  rows : MarkedRows ref_uses (ref_at l.bytes (length l.fn.used)) l.count (first_row l.at) l.fn.used l.counter (record { at = l.place; last = l.last }) l.used;
  size : l.place ≡ l.at + 13 * l.counter;
  inside : l.place ≤ length l.bytes;
}
