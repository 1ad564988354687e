-- The row that stands at a place in the bytes.
use Rattle.std.specs.Prelude.{◌≡◌, ℕ, List, ◌==◌, Option, Some, None, Ok, if◌then◌else◌}
use Rattle.fcg_partial.specs.Graph.{StoredType, StoredField, StoredMethod, StoredSite}
use Rattle.fcg_partial.specs.Reading.{TablePlace, Earlier, ref_at, type_at, field_at, method_at, site_at}

pub record IsTypeAt (bytes : List ℕ) (at : ℕ) (t : StoredType) : Type 0 where
  pub names : ℕ
  pub refs : ℕ
  pub number : ℕ
  pub next : ℕ
  pub read : type_at bytes names refs number at ≡ Ok (t, next)

pub record IsFieldAt (bytes : List ℕ) (at : ℕ) (f : StoredField) : Type 0 where
  pub names : ℕ
  pub number : ℕ
  pub next : ℕ
  pub read : field_at bytes names number at ≡ Ok (f, next)

pub record IsMethodAt (bytes : List ℕ) (at : ℕ) (m : StoredMethod) : Type 0 where
  pub names : ℕ
  pub refs : ℕ
  pub number : ℕ
  pub state : Earlier
  pub next : Earlier
  pub at_is : state.at ≡ at
  pub read : method_at bytes names refs number state ≡ Ok (m, next)

pub record IsSiteAt (bytes : List ℕ) (at : ℕ) (s : StoredSite) : Type 0 where
  pub refs : ℕ
  pub number : ℕ
  pub next : ℕ
  pub read : site_at bytes refs number at ≡ Ok (s, next)

pub record IsRefAt (bytes : List ℕ) (at : ℕ) (row : List ℕ) : Type 0 where
  pub names : ℕ
  pub number : ℕ
  pub state : TablePlace
  pub next : TablePlace
  pub at_is : state.at ≡ at
  pub read : ref_at bytes names number state ≡ Ok (row, next)

-- the superclass of a number
abbrev pub super_of : ℕ → Option ℕ
super_of n = if n == 0xffffffff then None else Some n
