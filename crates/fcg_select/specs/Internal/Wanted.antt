-- Which methods of a chain are wanted.
use Rattle.std.specs.Prelude.{◌<◌, List, Bool, false, ◌&&◌, length, Option, Some, None, ⊤, slice_get}
use Rattle.fcg_partial.specs.Parts.{PartShown}
use Rattle.fcg_analysis.specs.NamesAndFlags.{same, package_of}
use Rattle.fcg_analysis.specs.Declarations.{Placed, is_instance}
use Rattle.fcg_analysis.specs.Nodes.{Node}
use Rattle.fcg_analysis.specs.Laws.HandedOn.{is_open}
use Rattle.fcg_select.specs.declared.chain.Wanted.{Wanted}
use Rattle.fcg_select.specs.declared.chain.Wanted.TheVariants as wanted
use Rattle.fcg_join.specs.Parts.{types_of}

abbrev pub is_in_package : Option Placed → Node → Bool
is_in_package None m = false
is_in_package (Some x) m = same (package_of m.owner.view.name) (package_of x.view.name)

abbrev pub is_wanted : List PartShown → Wanted → Node → Bool
is_wanted parts wanted.Instance m = is_instance m.method
is_wanted parts wanted.Open m = is_open m
is_wanted parts (wanted.OpenIn t) m = is_open m && is_in_package (slice_get (types_of parts) t.0) m

-- the type whose package is wanted has a number
abbrev pub WantedIsKnown : List PartShown → Wanted → Type 0
WantedIsKnown parts wanted.Instance = ⊤
WantedIsKnown parts wanted.Open = ⊤
WantedIsKnown parts (wanted.OpenIn t) = t.0 < length (types_of parts)
