use Rattle.std.proofs.Common.{◌≡◌, ◌≤◌, ◌+◌, ℕ, List, [], ◌++◌, length}
use Rattle.fcg_partial.specs.Graph.{method_uses, method_targets}
use Rattle.fcg_partial.specs.Reading.{method_at}
use Rattle.fcg_partial.specs.Internal.UsedNumbers.{used_marks, AreKeys, earlier, at_state}
use Rattle.fcg_partial.proofs.BothRows.{BothRows}
use Rattle.fcg_partial.proofs.methods.read_methods.Given as goal

abbrev pub invariant-loop : goal.invariant-loop
invariant-loop l = record {
  before : List (List ℕ);
  keys_are : AreKeys l.keys before;
  places : List ℕ;
  rows : BothRows method_uses method_targets (method_at l.bytes (length l.fn.names) (length l.fn.refs)) at_state l.count (earlier l.at [] 0) (used_marks l.fn.names l.fn.refs) l.counter (earlier l.place before l.sites) (used_marks l.names l.refs) places;
  places_are : l.places.items ≡ l.fn.places.items ++ places;
  forward : l.at ≤ l.place;
  many : length l.places.items + l.at ≤ length l.fn.places.items + l.place;
  inside : l.place ≤ length l.bytes;
  few : l.sites ≤ 1000000;
}
