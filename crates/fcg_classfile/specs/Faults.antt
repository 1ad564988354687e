-- How a table is broken: all that stands before its first fault is spelled by the grammar and keeps the rules.
use Rattle.std.specs.Prelude.{◌≡◌, ℕ, ◌+◌, ◌-◌, ◌<◌, ◌≤◌, List, ◌++◌, length, map, Bool, Err}
use Rattle.std.specs.List.{flat_map, AllByRecursion, AllZip, IsDistinct}
use Rattle.fcg_grammar.specs.Number.{part}
use Rattle.fcg_grammar.specs.Reading.{◌>>=◌}
use Rattle.fcg_grammar.specs.Spell.{u2}
use Rattle.fcg_grammar.specs.First.{BreaksFirst}
use Rattle.fcg_views.specs.declared.view.Method.{Method}
use Rattle.fcg_classfile.specs.declared.code.CodeRule.{CodeRule}
use Rattle.fcg_classfile.specs.declared.fault.PoolFault.{PoolFault}
use Rattle.fcg_classfile.specs.declared.fault.ClassFault.{ClassFault}
use Rattle.fcg_classfile.specs.ClassFile.{Constant, constant, unusable, slots, MemberInfo, member_info}
use Rattle.fcg_classfile.specs.Reads.{Fits, HasCode, IsDeclared}
use Rattle.fcg_views.specs.Valid.{is_alike}
use Rattle.fcg_classfile.specs.Breaks.Number as class
use Rattle.fcg_classfile.specs.Breaks.Pool as pools
use Rattle.fcg_classfile.specs.Breaks.Pool.{Entries, constant_read, slot_kept}
use Rattle.fcg_classfile.specs.Breaks.Members.{Unfinished, method_at}
use Rattle.fcg_classfile.specs.Instructions.{Instruction, instruction, FitFrom}
use Rattle.fcg_views.specs.Descriptor.{IsDescriptor}
use Rattle.fcg_classfile.specs.Sites.{Found, AreFound}
use Rattle.fcg_classfile.specs.Breaks.Fault.{at_opcode}
use Rattle.fcg_classfile.specs.Breaks.Instructions.{next_at}
use Rattle.fcg_classfile.specs.Breaks.Code.{found_at}
use Rattle.fcg_classfile.specs.Tables.{unplaced}

-- the bytes from a place on, up to another, are a text
pub record Fills (bytes : List ℕ) (at : ℕ) (text : List ℕ) (after : ℕ) : Type 0 where
  pub within : after ≤ length bytes
  pub ends : after ≡ at + length text
  pub same : part bytes at (length text) ≡ text

-- the first fault of a pool is its count's, or that of a constant after some that stand there, or, after all
-- constants (the last of which may be a Long or Double without its second index), that of the first slot that breaks
-- the rules of indexes
pub data BrokenPool (bytes : List ℕ) (at : ℕ) (f : PoolFault) : Type 0 where
  InCount : pools.u2_at bytes at ≡ Err f → BrokenPool bytes at f
  InConstant : (count : ℕ) (before : List Constant) (place : ℕ) → Fills bytes at (u2 count ++ flat_map constant before) place → length (slots before) < count - 1 → AllByRecursion Fits before → constant_read bytes (1 + length (slots before)) place ≡ Err f → BrokenPool bytes at f
  InIndex : (count : ℕ) (pool : Entries) (constants : List Constant) (second : Bool) (end : ℕ) → pool.bytes ≡ bytes → Fills bytes at (u2 count ++ flat_map constant constants) end → slots constants ≡ unplaced pool.slots ++ unusable second → length pool.slots ≡ count - 1 → AllByRecursion Fits constants → BreaksFirst (slot_kept pool) 1 pool.slots f → BrokenPool bytes at f

-- a method with what its code has, before the handle sites of its calls are read
pub record IsUnfinishedOf (cs : List Constant) (c : MemberInfo) (m : Unfinished) : Type 0 where
  pub declared : IsDeclared cs IsDescriptor c m.0.flags m.0.name m.0.desc
  pub found : Found
  pub code : HasCode cs c.attributes found
  pub sites : m.0.sites ≡ found.sites
  pub calls : m.1.calls ≡ found.calls

-- methods without their calls
abbrev pub own : List Unfinished → List Method
own ms = map (λ m. m.0) ms

-- the first fault of the methods is their count's, or that of a method after some that stand there, no two alike
pub data BrokenMethods (pool : Entries) (constants : List Constant) (at : ℕ) (f : ClassFault) : Type 0 where
  InCount : class.u2_at pool.bytes at 0 ≡ Err f → BrokenMethods pool constants at f
  InMethod : (count : ℕ) (before : List MemberInfo) (earlier : List Unfinished) (place : ℕ) → Fills pool.bytes at (u2 count ++ flat_map member_info before) place → length before < count → AllZip (IsUnfinishedOf constants) before earlier → IsDistinct is_alike (own earlier) → method_at pool (length before) (record { at = place; earlier = own earlier }) ≡ Err f → BrokenMethods pool constants at f

-- the first fault of a code is that of an instruction after some that stand there
pub record BrokenCode (code : List ℕ) (f : ℕ × CodeRule) : Type 0 where
  pub before : List Instruction
  pub fills : Fills code 0 (flat_map instruction before) f.0
  pub fits : FitFrom 0 before
  pub within : f.0 < length code
  pub broken : next_at code f.0 ≡ Err f.1

-- the first fault of a code with its sites and calls is that of an instruction after some that stand there, with theirs:
-- it breaks a rule of instructions, or what it has breaks one
pub record BrokenSites (pool : Entries) (constants : List Constant) (begin : ℕ) (code : List ℕ) (count : ℕ) (f : ClassFault) : Type 0 where
  pub before : List Instruction
  pub found : Found
  pub pc : ℕ
  pub fills : Fills code 0 (flat_map instruction before) pc
  pub fits : FitFrom 0 before
  pub are : AreFound constants 0 before found
  pub few : count + length found.sites ≤ 1000000
  pub within : pc < length code
  pub broken : (at_opcode (begin + pc) (next_at code pc) >>= λ next. found_at pool begin code pc (count + length found.sites)) ≡ Err f
