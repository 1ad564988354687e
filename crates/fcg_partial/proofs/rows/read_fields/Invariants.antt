use Rattle.std.proofs.Common.{◌≤◌, length}
use Rattle.fcg_partial.specs.Reading.{field_at}
use Rattle.fcg_partial.specs.Graph.{field_uses}
use Rattle.fcg_partial.proofs.MarkRows.{MarkedRows}
use Rattle.fcg_partial.proofs.rows.read_fields.Given as goal

abbrev pub invariant-loop : goal.invariant-loop
invariant-loop l = record {
  rows : MarkedRows field_uses (field_at l.bytes (length l.fn.used)) l.count l.at l.fn.used l.counter l.place l.used;
  forward : l.at ≤ l.place;
  inside : l.place ≤ length l.bytes;
}
