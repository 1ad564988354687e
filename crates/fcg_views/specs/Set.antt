-- What a set of releases says.
use Rattle.std.specs.Prelude.{ℕ, List}
use Rattle.fcg_views.specs.declared.set.Set.{Set}

-- its releases, in order, by the texts of their coordinates
abbrev pub releases_of : Set → List (List ℕ)
releases_of set = set.releases
