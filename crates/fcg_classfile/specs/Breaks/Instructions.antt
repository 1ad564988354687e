-- The instructions of a method's code (JVMS 6): each leads to the next, up to the first that breaks a rule.
use Rattle.std.specs.Prelude.{ℕ, zero, suc, ◌+◌, ◌*◌, ◌^◌, List, [], ◌∷◌, length, slice_index, Option, Some, None, Result, Ok, Err, ◌==◌, nat_le, nat_lt, if◌then◌else◌}
use Rattle.fcg_grammar.specs.Number as number
use Rattle.fcg_grammar.specs.Number.{u1_at, u4_at, part_at}
use Rattle.fcg_grammar.specs.Reading.{◌>>=◌, unless_broken}
use Rattle.fcg_classfile.specs.declared.code.CodeRule.{CodeRule}
use Rattle.fcg_classfile.specs.declared.code.CodeRule.TheVariants.{CodeCut, BadOpcode, BadSwitch, BadWide}
use Rattle.fcg_classfile.specs.Instructions.{Form, Fixed, Table, Lookup, Wide, form_of, wide_of, pad_of, moved_up, offset_count}

-- the place after so many bytes
unfoldable pub passed : List ℕ → ℕ → ℕ → Result ℕ CodeRule
passed code at n = part_at CodeCut code at n >>= λ bytes. Ok (at + n)

-- the place after a tableswitch whose default stands at a place
unfoldable pub table_at : List ℕ → ℕ → Result ℕ CodeRule
table_at code at = do
  default ← u4_at CodeCut code at
  low ← u4_at CodeCut code (at + 4)
  high ← u4_at CodeCut code (at + 8)
  ordered ← unless_broken (nat_le (moved_up low) (moved_up high)) BadSwitch
  passed code (at + 12) (4 * offset_count low high)

-- the place after a lookupswitch whose default stands at a place; the number of pairs is signed
unfoldable pub lookup_at : List ℕ → ℕ → Result ℕ CodeRule
lookup_at code at = do
  default ← u4_at CodeCut code at
  count ← u4_at CodeCut code (at + 4)
  signed ← unless_broken (nat_lt count (2 ^ 31)) BadSwitch
  passed code (at + 8) (8 * count)

-- the place after an opcode that is made wide, and its operands
abbrev pub widened_at : List ℕ → ℕ → Option ℕ → Result ℕ CodeRule
widened_at code at None = Err BadWide
widened_at code at (Some n) = passed code (at + 1) n

unfoldable pub wide_at : List ℕ → ℕ → Result ℕ CodeRule
wide_at code at = do
  inner ← u1_at CodeCut code at
  widened_at code at (wide_of inner)

-- the place after an instruction of a form, whose opcode stands at a place
abbrev pub formed_at : List ℕ → ℕ → Option Form → Result ℕ CodeRule
formed_at code at None = Err BadOpcode
formed_at code at (Some (Fixed n)) = passed code (at + 1) n
formed_at code at (Some Table) = passed code (at + 1) (pad_of at) >>= table_at code
formed_at code at (Some Lookup) = passed code (at + 1) (pad_of at) >>= lookup_at code
formed_at code at (Some Wide) = wide_at code (at + 1)

-- the place after the instruction whose opcode stands at a place, or the first rule that it breaks
unfoldable pub next_at : List ℕ → ℕ → Result ℕ CodeRule
next_at code at = do
  op ← u1_at CodeCut code at
  formed_at code at (form_of op)

-- the number of the two bytes after the opcode, where an instruction of the form has so many, else 0
abbrev pub operand_in : List ℕ → ℕ → Option Form → ℕ
operand_in code at None = 0
operand_in code at (Some (Fixed n)) = if nat_le 2 n then number.u2 code (at + 1) else 0
operand_in code at (Some Table) = number.u2 code (at + 1)
operand_in code at (Some Lookup) = number.u2 code (at + 1)
operand_in code at (Some Wide) = number.u2 code (at + 1)

abbrev pub operand_at : List ℕ → ℕ → ℕ
operand_at code at = operand_in code at (form_of (slice_index code at))

-- ==== the whole code

-- a rule that an instruction broke, with the place of its opcode
abbrev pub broken_at : {A : Type 0} → ℕ → Result A CodeRule → Result A (ℕ × CodeRule)
broken_at at (Ok x) = Ok x
broken_at at (Err rule) = Err (at, rule)

-- The places of the opcodes from a place on, up to the code's end. The first number bounds the instructions: it never
-- runs out where it is above the number of the bytes that are left.
unfoldable pub starts_at : List ℕ → ℕ → ℕ → Result (List ℕ) (ℕ × CodeRule)
starts_at code zero at = Err (at, CodeCut)
starts_at code (suc fuel) at =
    if length code == at then Ok [] else (do
      next ← broken_at at (next_at code at)
      others ← starts_at code fuel next
      Ok (at ∷ others))

abbrev pub starts_of : List ℕ → Result (List ℕ) (ℕ × CodeRule)
starts_of code = starts_at code (1 + length code) 0
