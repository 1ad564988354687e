-- A log in memory: what its maps say of its entries.
use Rattle.std.specs.Prelude.{◌≡◌, ℕ, ◌≤◌, nat_eq, List}
use Rattle.std.specs.HashMap.{HashMap, get, spare}
use Rattle.fcg_views.specs.Valid.{is_same}
use Rattle.fcg_book.specs.Log.{Log, live, number_of}

-- the entries, and how many more there is room for
pub record LogState : Type 0 where
  pub entries : Log
  pub spare : ℕ

-- each coordinate is found at its live entry, and there is room
pub record IsIndexed {S : Type 0} (entries : Log) (room : ℕ) (lives : HashMap (List ℕ) ℕ S) (more : ℕ) : Type 0 where
  pub live : (coordinate : List ℕ) → get is_same lives coordinate ≡ live entries coordinate
  pub entry_room : more ≤ room
  pub live_room : more ≤ spare lives

-- each number of a request is found at its entry
abbrev pub AreNumbered : {S : Type 0} → HashMap ℕ ℕ S → Log → Type 0
AreNumbered numbers entries = (request : ℕ) → get nat_eq numbers request ≡ number_of entries request
