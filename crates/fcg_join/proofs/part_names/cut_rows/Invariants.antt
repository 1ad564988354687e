use Rattle.std.proofs.Common.{◌≡◌, take, drop}
use Rattle.std.specs.Prelude.{map}
use Rattle.fcg_grammar.specs.Table.{place}
use Rattle.fcg_join.specs.SetNames.{all_names, set_names}
use Rattle.fcg_join.specs.Internal.PartNames.{names_by_number}
use Rattle.fcg_join.proofs.part_names.cut_rows.Given as goal

abbrev pub invariant-loop-i : goal.invariant-loop-i
invariant-loop-i l = record {
  rest : l.rest ≡ map (place (set_names l.parts)) (all_names (drop l.i l.parts));
  rows : l.rows ≡ names_by_number (set_names l.parts) (take l.i l.parts);
}
