-- The constant that stands at a place, where one stands there whole.
use Rattle.std.specs.Prelude.{ℕ, ◌+◌, ◌≤◌, ◌<◌, List, [], length, slice_index, All, Option, Some, None}
use Rattle.fcg_grammar.specs.Number.{u2, part}
use Rattle.fcg_classfile.specs.ClassFile.{Shape, Text, Bytes, One, Two, Kinded, shape_of, Constant, Utf8, Plain, Named, Pair, Handle}
use Rattle.fcg_classfile.specs.Breaks.Pool.{Placed}

-- by the shape of its tag; no constant stands at a tag outside the table
unfoldable pub shaped_in : List ℕ → ℕ → ℕ → Option Shape → Constant
shaped_in bytes at tag None = Utf8 []
shaped_in bytes at tag (Some Text) = Utf8 (part bytes (at + 3) (u2 bytes (at + 1)))
shaped_in bytes at tag (Some (Bytes n)) = Plain tag (part bytes (at + 1) n)
shaped_in bytes at tag (Some One) = Named tag (u2 bytes (at + 1))
shaped_in bytes at tag (Some Two) = Pair tag (u2 bytes (at + 1)) (u2 bytes (at + 3))
shaped_in bytes at tag (Some Kinded) = Handle (slice_index bytes (at + 1)) (u2 bytes (at + 2))

unfoldable pub constant_in : List ℕ → ℕ → Constant
constant_in bytes at = shaped_in bytes at (slice_index bytes at) (shape_of (slice_index bytes at))

abbrev pub slot_in : List ℕ → Option ℕ → Option Placed
slot_in bytes None = None
slot_in bytes (Some at) = Some (record { tag = at; constant = constant_in bytes at })

-- its tag is in the table, and its bytes are in the file
unfoldable pub ShapeLies : List ℕ → ℕ → Option Shape → Type 0
ShapeLies bytes at None = ⊥
ShapeLies bytes at (Some Text) = (at + 3 ≤ length bytes) × (at + 3 + u2 bytes (at + 1) ≤ length bytes)
ShapeLies bytes at (Some (Bytes n)) = at + 1 + n ≤ length bytes
ShapeLies bytes at (Some One) = at + 3 ≤ length bytes
ShapeLies bytes at (Some Two) = at + 5 ≤ length bytes
ShapeLies bytes at (Some Kinded) = at + 4 ≤ length bytes

pub record Lies (bytes : List ℕ) (at : ℕ) : Type 0 where
  pub tag : at < length bytes
  pub rest : ShapeLies bytes at (shape_of (slice_index bytes at))

abbrev pub IsInside : List ℕ → Option ℕ → Type 0
IsInside bytes None = Unit {0}
IsInside bytes (Some at) = Lies bytes at

-- what the type of a pool keeps
pub record IsPool (bytes : List ℕ) (places : List (Option ℕ)) : Type 0 where
  pub inside : All (IsInside bytes) places
  pub few : length places < 65535
