-- The pool that a reader keeps, and the constants of the grammar.
use Rattle.std.specs.Prelude.{◌≡◌, List, Option, map, option_map}
use Rattle.fcg_classfile.specs.ClassFile.{Constant, slots}
use Rattle.fcg_classfile.specs.Breaks.Pool.{Placed, Entries}

-- constants by their indexes, without their places
abbrev pub unplaced : List (Option Placed) → List (Option Constant)
unplaced placed = map (option_map (λ p. p.constant)) placed

-- the pool has these constants at their indexes
abbrev pub Holds : Entries → List Constant → Type 0
Holds pool constants = unplaced pool.slots ≡ slots constants
