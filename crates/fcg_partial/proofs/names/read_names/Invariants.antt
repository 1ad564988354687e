use Rattle.std.proofs.Common.{◌≡◌, ◌-◌, ◌≤◌, length}
use Rattle.std.specs.Prelude.{map}
use Rattle.std.specs.List.{AllByRecursion}
use Rattle.fcg_grammar.specs.Rows.{rows}
use Rattle.fcg_grammar.proofs.RowLemmas.{with_front}
use Rattle.fcg_partial.specs.Reading.{name_at}
use Rattle.fcg_partial.specs.Internal.RowPlaces.{text_at, HasText, Follow, of_last, first_row}
use Rattle.fcg_partial.proofs.names.read_names.Given as goal

abbrev pub invariant-loop : goal.invariant-loop
invariant-loop l = record {
  read : with_front (map (text_at l.bytes) l.places.items) (rows (name_at l.bytes) (l.count - l.counter) l.counter (record { at = l.place; last = of_last l.last })) ≡ rows (name_at l.bytes) l.count 0 (first_row l.at);
  follow : Follow l.bytes l.at l.places.items l.place;
  inside : l.place ≤ length l.bytes;
  texts : AllByRecursion (HasText l.bytes) l.places.items;
}
