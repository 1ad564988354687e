-- What contracts see of a book, and what asking it answers.
use Rattle.std.specs.Prelude.{◌≡◌, ℕ, ◌<◌, ◌-◌, ◌^◌, min, length, not, nat_eq, List, [], ◌∷◌, ◌++◌, Option, Some, None, Result, Ok, Err}
use Rattle.std.specs.List.{filter, list_any}
use Rattle.std.specs.Arc.{arc_value}
use Rattle.std.specs.Map.{lookup, remove_entry}
use Rattle.fcg_views.specs.Valid.{is_same}
use Rattle.fcg_partial.specs.Parts.{PartShown}
use Rattle.fcg_book.specs.Entries.{coordinate_in, LogEntry}
use Rattle.fcg_book.specs.Log.{Log, live}
use Rattle.fcg_book.specs.Sets.{keys_of, parts_named}
use Rattle.fcg_book.specs.declared.book.Ask.{Ask}
use Rattle.fcg_book.specs.declared.book.Ask.TheVariants as asks

-- the log, for how many more entries there is room, and the values that are kept, each under the numbers of the live
-- entries that it is made from, the most recent first
pub record Books (V : Type 0) : Type 0 where
  pub log : Log
  pub spare : ℕ
  pub cached : List (List ℕ × V)

-- a place in a set, as a number of 32 bits, where greater ones stand as its last value
abbrev pub index_of : ℕ → ℕ
index_of i = min i (2 ^ 32 - 1)

module _ {V : Type 0} where
  -- the first release that isn't live; else the value that is kept for the set's key, where there is one; else the live
  -- releases that the key names
  abbrev pub AsksAs : Books V → List (List ℕ) → Ask V → Type 0
  AsksAs book set (asks.AbsentRelease index) = (i : ℕ) × (keys_of book.log set ≡ Err i) × (i < length set) × (index ≡ index_of i)
  AsksAs book set (asks.Hit key value) = (keys_of book.log set ≡ Ok key) × (lookup (is_same key) book.cached ≡ Some (arc_value value))
  AsksAs book set (asks.Parts key parts) = (keys_of book.log set ≡ Ok key) × (lookup (is_same key) book.cached ≡ None) × (parts ≡ parts_named book.log key)

  -- a value that is kept is made from the releases that its key names
  abbrev pub IsMadeIn : (V → List PartShown → Type 0) → Log → Ask V → Type 0
  IsMadeIn made log (asks.AbsentRelease index) = Unit {0}
  IsMadeIn made log (asks.Hit key value) = made (arc_value value) (parts_named log key)
  IsMadeIn made log (asks.Parts key parts) = Unit {0}

  -- a value that is kept moves to the front where it is asked for
  abbrev pub moved : List ℕ → Option V → List (List ℕ × V) → List (List ℕ × V)
  moved key None cached = cached
  moved key (Some value) cached = (key, value) ∷ remove_entry (is_same key) cached

  abbrev pub after_keys : Result (List ℕ) ℕ → List (List ℕ × V) → List (List ℕ × V)
  after_keys (Err i) cached = cached
  after_keys (Ok key) cached = moved key (lookup (is_same key) cached) cached

  abbrev pub after_ask : Books V → List (List ℕ) → List (List ℕ × V)
  after_ask book set = after_keys (keys_of book.log set) book.cached

  -- no value stays that is made from an entry which is replaced or withdrawn
  abbrev pub without : Option ℕ → List (List ℕ × V) → List (List ℕ × V)
  without None cached = cached
  without (Some n) cached = filter (λ p. not (list_any (nat_eq n) p.0)) cached

  -- a book with an entry more
  abbrev pub posted : Books V → LogEntry → Books V
  posted book e = record {
    log = book.log ++ e ∷ [];
    spare = book.spare - 1;
    cached = without (live book.log (coordinate_in e.command)) book.cached;
  }
