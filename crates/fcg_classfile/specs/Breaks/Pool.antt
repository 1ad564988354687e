-- The constant pool (JVMS 4.4): its constants in their order, then what their indexes name.
use Rattle.std.specs.Prelude.{ℕ, zero, suc, ◌+◌, ◌-◌, ◌^◌, List, [], ◌∷◌, length, Bool, true, false, not, ◌||◌, nat_le, nat_lt, ◌&&◌, min, slice_get, Option, Some, None, Result, Ok, Err, ◌==◌}
use Rattle.fcg_grammar.specs.Number as number
use Rattle.fcg_grammar.specs.Reading.{◌>>=◌, unless_broken}
use Rattle.fcg_grammar.specs.Rows.{rows, each}
use Rattle.fcg_classfile.specs.declared.fault.PoolFault.{PoolFault}
use Rattle.fcg_classfile.specs.declared.fault.PoolRule.{PoolRule}
use Rattle.fcg_classfile.specs.declared.fault.PoolRule.TheVariants.{Cut, BadTag, BadUtf8, BadIndex, WrongKind}
use Rattle.fcg_classfile.specs.ClassFile.{Shape, Text, Bytes, One, Two, Kinded, is_one_of, shape_of, Constant, Utf8, Plain, Named, Pair, Handle, tag_of, is_wide, wants}
use Rattle.fcg_classfile.specs.Breaks.Groups.{bad_group}

-- the fault of a constant; a place that is too large for its field is given as the field's last value
abbrev pub pool_fault : ℕ → ℕ → PoolRule → PoolFault
pool_fault at index rule = record { offset = min at (2 ^ 32 - 1); index = index; rule = rule }

-- what passes the file's end is cut, with no index
abbrev pub u1_at : List ℕ → ℕ → Result ℕ PoolFault
u1_at bytes at = number.u1_at (pool_fault at 0 Cut) bytes at

abbrev pub u2_at : List ℕ → ℕ → Result ℕ PoolFault
u2_at bytes at = number.u2_at (pool_fault at 0 Cut) bytes at

abbrev pub part_at : List ℕ → ℕ → ℕ → Result (List ℕ) PoolFault
part_at bytes at n = number.part_at (pool_fault at 0 Cut) bytes at n

-- the groups of a text that stands at a place
abbrev pub grouped : Option ℕ → ℕ → Result (Unit {0}) PoolFault
grouped None index = Ok tt
grouped (Some at) index = Err (pool_fault at index BadUtf8)

-- a constant whose tag stands at a place, and the place after it
unfoldable pub shaped_at : List ℕ → ℕ → ℕ → ℕ → Option Shape → Result (Constant × ℕ) PoolFault
shaped_at bytes index at tag None = Err (pool_fault at index BadTag)
shaped_at bytes index at tag (Some Text) = do
  n ← u2_at bytes (at + 1)
  text ← part_at bytes (at + 3) n
  groups ← grouped (bad_group (at + 3) text) index
  Ok (Utf8 text, at + 3 + n)
shaped_at bytes index at tag (Some (Bytes n)) = do
  read ← part_at bytes (at + 1) n
  Ok (Plain tag read, at + 1 + n)
shaped_at bytes index at tag (Some One) = do
  i ← u2_at bytes (at + 1)
  Ok (Named tag i, at + 3)
shaped_at bytes index at tag (Some Two) = do
  i ← u2_at bytes (at + 1)
  j ← u2_at bytes (at + 3)
  Ok (Pair tag i j, at + 5)
shaped_at bytes index at tag (Some Kinded) = do
  kind ← u1_at bytes (at + 1)
  i ← u2_at bytes (at + 2)
  Ok (Handle kind i, at + 4)

unfoldable pub constant_read : List ℕ → ℕ → ℕ → Result (Constant × ℕ) PoolFault
constant_read bytes index at = do
  tag ← u1_at bytes at
  shaped_at bytes index at tag (shape_of tag)

-- a constant, and the place of its tag
pub record Placed : Type 0 where
  pub tag : ℕ
  pub constant : Constant

-- where the next constant stands, and whether this index is the second of a Long or Double
pub record Next : Type 0 where
  pub at : ℕ
  pub second : Bool

-- one row for each index
abbrev pub index_read : List ℕ → ℕ → ℕ → Bool → Result (Option Placed × Next) PoolFault
index_read bytes index at true = Ok (None, record { at = at; second = false })
index_read bytes index at false = constant_read bytes index at >>= λ x. Ok (Some (record { tag = at; constant = x.0 }), record { at = x.1; second = is_wide x.0 })

unfoldable pub slot_at : List ℕ → ℕ → Next → Result (Option Placed × Next) PoolFault
slot_at bytes index next = index_read bytes index next.at next.second

-- a pool: the file, and its constants by their indexes, from 1 on
pub record Entries : Type 0 where
  pub bytes : List ℕ
  pub slots : List (Option Placed)

-- the constant at an index
abbrev pub in_slot : Option (Option Placed) → Result Constant PoolRule
in_slot None = Err BadIndex
in_slot (Some None) = Err BadIndex
in_slot (Some (Some placed)) = Ok placed.constant

unfoldable pub constant_of : Entries → ℕ → Result Constant PoolRule
constant_of pool zero = Err BadIndex
constant_of pool (suc i) = in_slot (slice_get pool.slots i)

-- the text of the Utf8 at an index
abbrev pub text_in : Constant → Result (List ℕ) PoolRule
text_in (Utf8 text) = Ok text
text_in (Plain tag bytes) = Err WrongKind
text_in (Named tag i) = Err WrongKind
text_in (Pair tag i j) = Err WrongKind
text_in (Handle kind i) = Err WrongKind

unfoldable pub text_of : Entries → ℕ → Result (List ℕ) PoolRule
text_of pool index = constant_of pool index >>= text_in

-- the index of the name of the Class at an index
abbrev pub name_in : Constant → Result ℕ PoolRule
name_in (Utf8 text) = Err WrongKind
name_in (Plain tag bytes) = Err WrongKind
name_in (Named tag i) = unless_broken (tag == 7) WrongKind >>= λ is. Ok i
name_in (Pair tag i j) = Err WrongKind
name_in (Handle kind i) = Err WrongKind

unfoldable pub name_of : Entries → ℕ → Result ℕ PoolRule
name_of pool index = constant_of pool index >>= name_in

-- the two indexes of the constant of one of these tags at an index, and its tag
pub record Indexes : Type 0 where
  pub tag : ℕ
  pub first : ℕ
  pub second : ℕ

abbrev pub pair_in : List ℕ → Constant → Result Indexes PoolRule
pair_in tags (Utf8 text) = Err WrongKind
pair_in tags (Plain tag bytes) = Err WrongKind
pair_in tags (Named tag i) = Err WrongKind
pair_in tags (Pair tag i j) = unless_broken (is_one_of tags tag) WrongKind >>= λ is. Ok (record { tag = tag; first = i; second = j })
pair_in tags (Handle kind i) = Err WrongKind

unfoldable pub pair_of : Entries → List ℕ → ℕ → Result Indexes PoolRule
pair_of pool tags index = constant_of pool index >>= pair_in tags

-- what a Fieldref, Methodref or InterfaceMethodref names
pub record Reference : Type 0 where
  pub tag : ℕ
  pub owner : List ℕ
  pub name : List ℕ
  pub desc : List ℕ

unfoldable pub reference_of : Entries → ℕ → Result Reference PoolRule
reference_of pool index = do
  pair ← pair_of pool (9 ∷ 10 ∷ 11 ∷ []) index
  class ← name_of pool pair.first
  owner ← text_of pool class
  member ← pair_of pool (12 ∷ []) pair.second
  name ← text_of pool member.first
  desc ← text_of pool member.second
  Ok (record { tag = pair.tag; owner = owner; name = name; desc = desc })

-- the kind of the MethodHandle at an index, and what it names
abbrev pub handle_in : Constant → Result (ℕ × ℕ) PoolRule
handle_in (Utf8 text) = Err WrongKind
handle_in (Plain tag bytes) = Err WrongKind
handle_in (Named tag i) = Err WrongKind
handle_in (Pair tag i j) = Err WrongKind
handle_in (Handle kind i) = Ok (kind, i)

unfoldable pub handle_of : Entries → ℕ → Result (ℕ × Reference) PoolRule
handle_of pool index = do
  handle ← constant_of pool index >>= handle_in
  reference ← reference_of pool handle.1
  Ok (handle.0, reference)

-- the bootstrap index of the InvokeDynamic at an index
unfoldable pub dynamic_of : Entries → ℕ → Result ℕ PoolRule
dynamic_of pool index = pair_of pool (18 ∷ []) index >>= λ pair. Ok pair.first

-- ==== After the last constant the indexes of each are checked. A fault is at the constant's tag.

-- an index names a constant of one of these tags
unfoldable pub want_kept : Entries → ℕ × List ℕ → Result (Unit {0}) PoolRule
want_kept pool want = do
  c ← constant_of pool want.0
  unless_broken (is_one_of want.1 (tag_of c)) WrongKind

abbrev pub wants_kept : Entries → List (ℕ × List ℕ) → Result (Unit {0}) PoolRule
wants_kept pool [] = Ok tt
wants_kept pool (w ∷ ws) = do
  kept ← want_kept pool w
  wants_kept pool ws

-- a method handle is of a kind from 1 to 9
abbrev pub is_kind : Constant → Bool
is_kind (Utf8 text) = true
is_kind (Plain tag bytes) = true
is_kind (Named tag i) = true
is_kind (Pair tag i j) = true
is_kind (Handle kind i) = nat_le 1 kind && nat_le kind 9

-- the second index of a Long or Double is in the pool
abbrev pub has_room : Entries → ℕ → Constant → Bool
has_room pool index c = not (is_wide c) || nat_lt index (length pool.slots)

unfoldable pub constant_kept : Entries → ℕ → Constant → Result (Unit {0}) PoolRule
constant_kept pool index c = do
  room ← unless_broken (has_room pool index c) BadIndex
  kind ← unless_broken (is_kind c) WrongKind
  wants_kept pool (wants c)

-- a rule that an index of a constant broke is a fault at its tag
abbrev pub at_tag : {A : Type 0} → ℕ → ℕ → Result A PoolRule → Result A PoolFault
at_tag at index (Ok x) = Ok x
at_tag at index (Err rule) = Err (pool_fault at index rule)

abbrev pub kept_in : Entries → ℕ → Option Placed → Result (Unit {0}) PoolFault
kept_in pool index None = Ok tt
kept_in pool index (Some placed) = at_tag placed.tag index (constant_kept pool index placed.constant)

unfoldable pub slot_kept : Entries → ℕ → Option Placed → Result (Unit {0}) PoolFault
slot_kept pool index slot = kept_in pool index slot

-- the count, the constants, their own indexes; and the place after them
unfoldable pub pool_at : List ℕ → ℕ → Result (Entries × ℕ) PoolFault
pool_at bytes at = do
  count ← u2_at bytes at
  read ← rows (slot_at bytes) (count - 1) 1 (record { at = at + 2; second = false })
  checked ← each (slot_kept (record { bytes = bytes; slots = read.0 })) 1 read.0
  Ok (record { bytes = bytes; slots = read.0 }, read.1.at)
