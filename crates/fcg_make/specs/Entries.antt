-- The entries of a constant pool by what they say (JVMS 4.4).
use Rattle.std.specs.Prelude.{ℕ, suc, ◌+◌, List, [], ◌∷◌, ◌++◌, Bool, false, ◌&&◌, ◌==◌, if◌then◌else◌, Option, Some, None, option_map, is_some}
use Rattle.fcg_views.specs.Valid.{is_same}
use Rattle.fcg_make.specs.declared.entry.Entry.{Entry}
use Rattle.fcg_make.specs.declared.entry.Entry.TheVariants.{Text, Class, Member, Reference, Handle, Dynamic}

-- both entries say the same
abbrev pub is_entry : Entry → Entry → Bool
is_entry (Text a) (Text b) = is_same a b
is_entry (Class a) (Class b) = is_same a b
is_entry (Member a c) (Member b d) = is_same a b && is_same c d
is_entry (Reference s a c e) (Reference t b d f) = s == t && (is_same a b && (is_same c d && is_same e f))
is_entry (Handle k s a c e) (Handle l t b d f) = k == l && (s == t && (is_same a b && (is_same c d && is_same e f)))
is_entry (Dynamic i) (Dynamic j) = i == j
is_entry x y = false

-- the place of an entry, from 0, where it is there
abbrev pub place_in : List Entry → Entry → Option ℕ
place_in [] e = None
place_in (x ∷ xs) e = if is_entry e x then Some 0 else option_map suc (place_in xs e)

-- an entry is added where it isn't there
unfoldable pub added : List Entry → Entry → List Entry
added pool e = if is_some (place_in pool e) then pool else pool ++ e ∷ []

-- the entries in the order in which they are first needed, each once
abbrev pub added_all : List Entry → List Entry → List Entry
added_all pool [] = pool
added_all pool (e ∷ es) = added_all (added pool e) es

-- The first entry of a pool has the index 1; index 0 names nothing.
abbrev pub index_at : Option ℕ → ℕ
index_at None = 0
index_at (Some i) = i + 1

unfoldable pub index_of : List Entry → Entry → ℕ
index_of pool e = index_at (place_in pool e)
