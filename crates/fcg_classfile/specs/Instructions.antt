-- The instructions of a method's code (JVMS 6), by their lengths. All places are counted from the code's start.
use Rattle.std.specs.Prelude.{◌≡◌, ℕ, ◌+◌, ◌-◌, ◌*◌, ◌%◌, ◌<◌, ◌≤◌, ◌^◌, List, [], ◌∷◌, ◌++◌, length, Bool, false, ◌&&◌, ◌||◌, Option, Some, None, nat_le, if◌then◌else◌}
use Rattle.std.specs.List.{flat_map}
use Rattle.fcg_grammar.specs.Spell.{u4}

-- what follows an opcode: so many bytes, what a tableswitch has, what a lookupswitch has, or an instruction that is
-- made wide
pub data Form : Type 0 where
  Fixed : ℕ → Form
  Table : Form
  Lookup : Form
  Wide : Form

abbrev pub is_in_any : List (ℕ × ℕ) → ℕ → Bool
is_in_any [] n = false
is_in_any (r ∷ rs) n = (nat_le r.0 n && nat_le n r.1) || is_in_any rs n

-- the first row of a table that has a number in one of its ranges
abbrev pub row_of : {A : Type 0} → List (A × List (ℕ × ℕ)) → ℕ → Option A
row_of [] n = None
row_of (r ∷ rs) n = if is_in_any r.1 n then Some r.0 else row_of rs n

-- the forms, with the first and the last opcode of each range
abbrev pub forms : List (Form × List (ℕ × ℕ))
forms =
    (Fixed 0, (0, 15) ∷ (26, 53) ∷ (59, 131) ∷ (133, 152) ∷ (172, 177) ∷ (190, 191) ∷ (194, 195) ∷ [])
    ∷ (Fixed 1, (16, 16) ∷ (18, 18) ∷ (21, 25) ∷ (54, 58) ∷ (169, 169) ∷ (188, 188) ∷ [])
    ∷ (Fixed 2, (17, 17) ∷ (19, 20) ∷ (132, 132) ∷ (153, 168) ∷ (178, 184) ∷ (187, 187) ∷ (189, 189) ∷ (192, 193) ∷ (198, 199) ∷ [])
    ∷ (Fixed 3, (197, 197) ∷ [])
    ∷ (Fixed 4, (185, 186) ∷ (200, 201) ∷ [])
    ∷ (Table, (170, 170) ∷ [])
    ∷ (Lookup, (171, 171) ∷ [])
    ∷ (Wide, (196, 196) ∷ []) ∷ []

-- The opcodes from 202 on have none.
abbrev pub form_of : ℕ → Option Form
form_of op = row_of forms op

-- how many bytes follow an opcode that `wide` makes wide: a load, a store or `ret`, and `iinc`
abbrev pub wide_forms : List (ℕ × List (ℕ × ℕ))
wide_forms = (2, (21, 25) ∷ (54, 58) ∷ (169, 169) ∷ []) ∷ (4, (132, 132) ∷ []) ∷ []

abbrev pub wide_of : ℕ → Option ℕ
wide_of op = row_of wide_forms op

-- the padding after the opcode of a switch: the place that follows it is a multiple of 4
abbrev pub pad_of : ℕ → ℕ
pad_of at = 3 - at % 4

-- a signed number of four bytes, moved up by 2 ^ 31, so that all are from 0 on and in their order
abbrev pub moved_up : ℕ → ℕ
moved_up n = (n + 2 ^ 31) % 2 ^ 32

-- how many offsets a tableswitch has
abbrev pub offset_count : ℕ → ℕ → ℕ
offset_count low high = moved_up high - moved_up low + 1

-- an instruction: the opcode, and what follows it
pub data Instruction : Type 0 where
  Plain : ℕ → List ℕ → Instruction
  -- the padding, the default, the bounds, the offsets
  TableSwitch : ℕ → List ℕ → ℕ → ℕ → ℕ → List ℕ → Instruction
  -- the padding, the default, the number of pairs, the pairs
  LookupSwitch : ℕ → List ℕ → ℕ → ℕ → List ℕ → Instruction
  -- the opcode that is made wide, and its operands
  Widened : ℕ → ℕ → List ℕ → Instruction

abbrev pub instruction : Instruction → List ℕ
instruction (Plain op operands) = op ∷ operands
instruction (TableSwitch op pad default low high offsets) = op ∷ (pad ++ (u4 default ++ (u4 low ++ (u4 high ++ offsets))))
instruction (LookupSwitch op pad default count pairs) = op ∷ (pad ++ (u4 default ++ (u4 count ++ pairs)))
instruction (Widened op inner operands) = op ∷ inner ∷ operands

-- An instruction keeps its form where its opcode is at a place. The bytes of the padding are free.
abbrev pub FitsAt : ℕ → Instruction → Type 0
FitsAt at (Plain op operands) = form_of op ≡ Some (Fixed (length operands))
FitsAt at (TableSwitch op pad default low high offsets) =
    (form_of op ≡ Some Table) × (length pad ≡ pad_of at) × (default < 2 ^ 32) × (low < 2 ^ 32) × (high < 2 ^ 32)
    × (moved_up low ≤ moved_up high) × (length offsets ≡ 4 * offset_count low high)
FitsAt at (LookupSwitch op pad default count pairs) =
    (form_of op ≡ Some Lookup) × (length pad ≡ pad_of at) × (default < 2 ^ 32) × (count < 2 ^ 31) × (length pairs ≡ 8 * count)
FitsAt at (Widened op inner operands) = (form_of op ≡ Some Wide) × (wide_of inner ≡ Some (length operands))

-- instructions that stand one after the other, from a place on
abbrev pub FitFrom : ℕ → List Instruction → Type 0
FitFrom at [] = Unit {0}
FitFrom at (i ∷ is) = FitsAt at i × FitFrom (at + length (instruction i)) is

-- the places of their opcodes
abbrev pub starts : ℕ → List Instruction → List ℕ
starts at [] = []
starts at (i ∷ is) = at ∷ starts (at + length (instruction i)) is

-- the code is these instructions, from its start to its end
pub record IsCode (code : List ℕ) (is : List Instruction) : Type 0 where
  pub spelled : code ≡ flat_map instruction is
  pub fit : FitFrom 0 is
