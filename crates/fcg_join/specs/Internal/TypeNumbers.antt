-- Types by numbers: which type has a name, and to which types one links.
use Rattle.std.specs.Prelude.{◌≡◌, ℕ, ◌<◌, List, ◌++◌, Option, Some, None, flat_map, length, option_and_then, option_to_list, slice_index_or, if◌then◌else◌}
use Rattle.std.specs.List.{AllZip}
use Rattle.fcg_grammar.specs.Table.{place}
use Rattle.fcg_partial.specs.Parts.{PartShown}
use Rattle.fcg_analysis.specs.NamesAndFlags.{has}
use Rattle.fcg_analysis.specs.Declarations.{Placed, interface_names}
use Rattle.fcg_join.specs.declared.heads.TypeHead.{TypeHead}
use Rattle.fcg_join.specs.SetNames.{set_names}
use Rattle.fcg_join.specs.Internal.TypeHeads.{IsHead, no_head, used_superclass}

-- these are the types, place by place
abbrev pub AreHeads : List PartShown → List TypeHead → List Placed → Type 0
AreHeads parts heads types = AllZip (IsHead parts (set_names parts)) heads types

abbrev pub head_at : List TypeHead → ℕ → TypeHead
head_at heads y = slice_index_or heads y no_head

-- the type that has the name of a number
abbrev pub type_numbered : List (Option ℕ) → ℕ → Option ℕ
type_numbered by_name n = slice_index_or by_name n None

-- Of each number of a name there is a type that has it, where one of the first n has it.
pub record FindsFirst (heads : List TypeHead) (by_name : List (Option ℕ)) (count n : ℕ) : Type 0 where
  pub long : length by_name ≡ count
  pub found : (k y : ℕ) → type_numbered by_name k ≡ Some y → (y < n) × ((head_at heads y).name ≡ k)
  pub there : (y : ℕ) → y < n → (z : ℕ) × (type_numbered by_name (head_at heads y).name ≡ Some z)

abbrev pub FindsHeads : List TypeHead → List (Option ℕ) → ℕ → Type 0
FindsHeads heads by_name count = FindsFirst heads by_name count (length heads)

-- ---- links

-- the class and the interface that have the name of a number
abbrev pub class_numbered : List TypeHead → List (Option ℕ) → ℕ → Option ℕ
class_numbered heads by_name n =
    option_and_then (λ y. if has 0x0200 (head_at heads y).flags then None else Some y) (type_numbered by_name n)

abbrev pub interface_numbered : List TypeHead → List (Option ℕ) → ℕ → Option ℕ
interface_numbered heads by_name n =
    option_and_then (λ y. if has 0x0200 (head_at heads y).flags then Some y else None) (type_numbered by_name n)

abbrev pub superclass_numbered : List TypeHead → List (Option ℕ) → Option ℕ → Option ℕ
superclass_numbered heads by_name used = option_and_then (class_numbered heads by_name) used

-- the interfaces of these names
abbrev pub interfaces_numbered : List (List ℕ) → List TypeHead → List (Option ℕ) → List (List ℕ) → List ℕ
interfaces_numbered names heads by_name ns = flat_map (λ n. option_to_list (interface_numbered heads by_name (place names n))) ns

-- the types to which a type links
abbrev pub links_numbered : List (List ℕ) → List TypeHead → List (Option ℕ) → Placed → List ℕ
links_numbered names heads by_name t =
    interfaces_numbered names heads by_name (interface_names t) ++ option_to_list (superclass_numbered heads by_name (used_superclass names t))
