use Rattle.std.proofs.Common.{◌≡◌, drop, length, map}
use Rattle.std.specs.Prelude.{string_bytes}
use Rattle.fcg_commands.specs.Words.{coordinates_from}
use Rattle.fcg_commands.proofs.WordLaws.{after}
use Rattle.fcg_commands.proofs.words.read_coordinates.Given as goal

abbrev pub invariant-loop-text : goal.invariant-loop-text
invariant-loop-text l = (length l.list.items ≡ l.text-index) × (coordinates_from 0 (map string_bytes l.fn.texts) ≡ after l.list.items (coordinates_from l.text-index (drop l.text-index (map string_bytes l.fn.texts))))
