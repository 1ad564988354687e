-- How far bytes were written.
use Rattle.std.specs.Prelude.{ℕ, ◌≡◌, List, ◌++◌, Option}
use Rattle.std.specs.Io.KnownBytes.{Appends}

-- The front of the bytes was written, and the rest is still to be written.
pub record Wrote (before now : Option (List ℕ)) (all rest : List ℕ) : Type 0 where
  pub front : List ℕ
  pub parts : all ≡ front ++ rest
  pub taken : Appends before now front
