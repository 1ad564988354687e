-- What the objects of a run tell of themselves.
use Rattle.std.specs.Prelude.{ℕ, List, Option}
use Rattle.fcg_bytes.specs.Objects.{Aside}
use Rattle.fcg_bytes.specs.Files.{File}

-- what is read from: the bytes that are left, where they are told; how often it failed; and what it tells as a sink
pub record Input : Type 0 where
  pub left : Option (List ℕ)
  pub faults : ℕ
  pub aside : Aside

-- what is written to: the bytes that it took, where they are told; how often it failed; and what it tells as a source
pub record Output : Type 0 where
  pub taken : Option (List ℕ)
  pub faults : ℕ
  pub aside : Aside

-- a file system: its files, where they are told, and how often it failed
pub record FileSystem : Type 0 where
  pub told : Option (List File)
  pub faults : ℕ
