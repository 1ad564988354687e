-- The names that are made of a pool's texts, with the numbers of these.
use Rattle.std.specs.Prelude.{◌≡◌, ◌⊎◌, ◌<◌, ◌+◌, ◌++◌, ℕ, List, length, All, slice_index_or}
use Rattle.fcg_views.specs.NamesIn.{TextNumbers, names_by}
use Rattle.fcg_views.specs.NamesIn as numbered
use Rattle.fcg_classfile.specs.Breaks.Pool.{Entries}
use Rattle.fcg_reader.specs.Internal.Rows.{text_in}

-- the pool, and the names that were made
pub record Named : Type 0 where
  pub pool : Entries
  pub list : TextNumbers

-- a number is that of the text of the Utf8 at an index
abbrev pub IsNumberOf : Named → ℕ → ℕ → Type 0
IsNumberOf n index number = (number < length n.list.texts) × (numbered.text_in n.list.texts number ≡ text_in n.pool index)

-- these names were made more
pub record NamesMore (old new : Named) (made : List (List ℕ)) : Type 0 where
  pub pool : new.pool ≡ old.pool
  pub names : names_by new.list ≡ names_by old.list ++ made

-- a number may be kept for an index, as one more, beside those that were before
abbrev pub NumberKept : ℕ → ℕ → List ℕ → List ℕ → Type 0
NumberKept index number old new = (i kept : ℕ) → slice_index_or new i 0 ≡ kept + 1 → (slice_index_or old i 0 ≡ kept + 1) ⊎ ((i ≡ index) × (kept ≡ number))

-- the texts are parts of the file; each name has a text; and what is kept for an index is one more than the number of its text
pub record IsNamed (n : Named) (numbers : List ℕ) : Type 0 where
  pub block : n.list.block ≡ n.pool.bytes
  pub below : All (λ number. number < length n.list.texts) n.list.numbers
  pub kept : (i number : ℕ) → slice_index_or numbers i 0 ≡ number + 1 → IsNumberOf n i number
