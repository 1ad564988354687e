use Rattle.std.proofs.Common.{◌≡◌, ◌≤◌, length}
use Rattle.fcg_partial.specs.Graph.{type_uses, type_targets}
use Rattle.fcg_partial.specs.Reading.{type_at}
use Rattle.fcg_partial.specs.Internal.UsedNumbers.{used_marks, at_place, firsts_of, methods_of, AreMethodPlaces}
use Rattle.fcg_partial.proofs.BothRows.{BothRows}
use Rattle.fcg_partial.proofs.types.read_types.Given as goal

abbrev pub invariant-loop : goal.invariant-loop
invariant-loop l = record {
  rows : BothRows type_uses type_targets (type_at l.bytes (length l.fn.names) (length l.fn.refs)) at_place l.count l.at (used_marks l.fn.names l.fn.refs) l.counter l.place (used_marks l.names l.refs) l.places.types.items;
  firsts_are : l.places.firsts.items ≡ firsts_of 0 rows.front;
  methods_are : AreMethodPlaces l.bytes (length l.fn.names) (length l.fn.refs) l.places.methods.items (methods_of rows.front);
  many : length l.places.methods.items ≤ l.place;
  inside : l.place ≤ length l.bytes;
}
