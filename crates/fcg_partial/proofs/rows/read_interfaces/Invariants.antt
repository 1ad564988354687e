use Rattle.std.proofs.Common.{◌≤◌, length}
use Rattle.fcg_partial.specs.Reading.{interface_at}
use Rattle.fcg_partial.specs.Internal.UsedNumbers.{one_use}
use Rattle.fcg_partial.proofs.MarkRows.{MarkedRows}
use Rattle.fcg_partial.proofs.rows.read_interfaces.Given as goal

abbrev pub invariant-loop : goal.invariant-loop
invariant-loop l = record {
  rows : MarkedRows one_use (interface_at l.bytes (length l.fn.used)) l.count l.at l.fn.used l.counter l.place l.used;
  forward : l.at ≤ l.place;
  inside : l.place ≤ length l.bytes;
}
