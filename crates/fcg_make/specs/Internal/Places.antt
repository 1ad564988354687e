-- The places of entries in a map.
use Rattle.std.specs.Prelude.{◌≡◌, ℕ, List}
use Rattle.std.specs.BTreeMap as tree
use Rattle.std.specs.BTreeMap.{BTreeMap}
use Rattle.std.specs.declared.cmp.Ordering.{Ordering}
use Rattle.fcg_make.specs.declared.entry.Entry.{Entry}
use Rattle.fcg_make.specs.Entries.{place_in}

-- the map, whose keys are in this order, has the place of each entry, and of no other
abbrev pub ArePlaces : (Entry → Entry → Ordering) → List Entry → BTreeMap Entry ℕ → Type 0
ArePlaces cmp pool places = (e : Entry) → tree.get cmp places e ≡ place_in pool e
