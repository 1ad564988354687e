use Rattle.std.proofs.Common.{◌≡◌, ℕ, List, ◌++◌, drop}
use Rattle.std.specs.Prelude.{map}
use Rattle.fcg_grammar.specs.Table.{place}
use Rattle.fcg_views.specs.declared.view.View.{View}
use Rattle.fcg_join.specs.SetNames.{part_names}
use Rattle.fcg_join.specs.Internal.PartRows.{HasView}
use Rattle.fcg_join.proofs.used_names.push_interface_names.Given as goal

abbrev pub invariant-loop-j : goal.invariant-loop-j
invariant-loop-j l = (names : List (List ℕ)) (v : View) → l.numbers ≡ map (place names) (part_names l.part) → HasView l.part l.k v
    → l.row.items ++ map (place names) (drop l.j v.interfaces) ≡ l.fn.row.items ++ map (place names) v.interfaces
