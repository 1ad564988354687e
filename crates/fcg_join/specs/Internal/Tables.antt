-- The tables of a Joined.
use Rattle.std.specs.Prelude.{◌≡◌, ℕ, ◌^◌, ◌<◌, List, All, Bool, not, ◌&&◌, Option, Some, None, length, map, if◌then◌else◌}
use Rattle.fcg_partial.specs.Parts.{PartShown}
use Rattle.fcg_analysis.specs.NamesAndFlags.{has}
use Rattle.fcg_analysis.specs.Types.{object}
use Rattle.fcg_analysis.specs.Laws.Methods.{AreApart}
use Rattle.fcg_join.specs.declared.heads.TypeHead.{TypeHead}
use Rattle.fcg_join.specs.declared.tables.TypeTables.{TypeTables}
use Rattle.fcg_join.specs.Parts.{types_of, nodes_of}
use Rattle.fcg_join.specs.SetNames.{set_names}
use Rattle.fcg_join.specs.Internal.PartNames.{AreSetNames}
use Rattle.fcg_join.specs.TypeLinks.{HasLinks}
use Rattle.fcg_join.specs.Internal.TypeHeads.{IsFirstHead}
use Rattle.fcg_join.specs.Internal.TypeNumbers.{AreHeads, FindsHeads, superclass_numbered}
use Rattle.fcg_join.specs.Joined.{IsTypeNumber}
use Rattle.fcg_join.specs.Internal.Inherited.{AreInherited}
use Rattle.fcg_join.specs.Internal.Nodes.{AreNodeTables}
use Rattle.fcg_join.specs.Internal.Signatures.{AreSignatures}

abbrev pub is_object_class : TypeHead → Bool
is_object_class h = h.is_object && not (has 0x0200 h.flags)

abbrev pub superclasses_of : List TypeHead → List (Option ℕ) → List (Option ℕ)
superclasses_of heads by_name = map (λ h. superclass_numbered heads by_name h.superclass) heads

-- The tables are those of the known types of some parts.
pub record IsJoined (parts : List PartShown) (t : TypeTables) : Type 0 where
  pub few : length (types_of parts) < 2 ^ 32
  pub few_names : length (set_names parts) < 2 ^ 32
  pub names : AreSetNames parts t.names
  pub heads : AreHeads parts t.heads.items (types_of parts)
  pub first_heads : All (IsFirstHead parts) t.heads.items
  pub by_name : FindsHeads t.heads.items t.linked.by_name.items (length (set_names parts))
  pub links : HasLinks (types_of parts) t.linked.links
  pub superclasses : t.superclasses.items ≡ superclasses_of t.heads.items t.linked.by_name.items
  pub object' : IsTypeNumber (types_of parts) t.object (object (types_of parts))
  pub apart : AreApart (types_of parts)
  pub few_nodes : length (nodes_of parts) < 2 ^ 32
  pub nodes' : AreNodeTables (types_of parts) t.nodes.firsts.items t.nodes.owners.items
  pub inherited' : AreInherited parts t.inherited
  pub signatures' : AreSignatures parts t.signatures

-- the next of a chain: the superclass, or else Object, unless the chain ends
abbrev pub next_numbered : Option ℕ → Bool → Option ℕ → Option ℕ
next_numbered (Some y) ends object = Some y
next_numbered None ends object = if ends then None else object
