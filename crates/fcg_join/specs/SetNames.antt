-- The names of some parts, by numbers: a name's number is its place in the table of all their names.
use Rattle.std.specs.Prelude.{ℕ, List, flat_map}
use Rattle.fcg_grammar.specs.Table.{table}
use Rattle.fcg_partial.specs.Parts.{PartShown}
use Rattle.fcg_partial.specs.Views.{graph_of}

-- the names of a part, and of all parts, part after part
abbrev pub part_names : PartShown → List (List ℕ)
part_names p = (graph_of p.views).names

unfoldable pub all_names : List PartShown → List (List ℕ)
all_names parts = flat_map part_names parts

-- each name once, in the order of the bytes
unfoldable pub set_names : List PartShown → List (List ℕ)
set_names parts = table (all_names parts)
