use Rattle.std.proofs.Common.{◌≤◌, length}
use Rattle.fcg_partial.specs.Reading.{site_at}
use Rattle.fcg_partial.specs.Internal.UsedNumbers.{site_target}
use Rattle.fcg_partial.proofs.MarkRows.{MarkedRows}
use Rattle.fcg_partial.proofs.rows.read_sites.Given as goal

abbrev pub invariant-loop : goal.invariant-loop
invariant-loop l = record {
  rows : MarkedRows site_target (site_at l.bytes (length l.fn.used)) l.count l.at l.fn.used l.counter l.place l.used;
  forward : l.at ≤ l.place;
  inside : l.place ≤ length l.bytes;
}
