-- Numbers and strings of a stored graph: what is read is spelled so, and what is spelled so is read.
use Rattle.std.proofs.Common.{◌≡◌, ℕ, ◌+◌, ◌^◌, ◌<◌, List, ◌∷◌, [], ◌++◌, length}
use Rattle.std.specs.Prelude.{Ok}
use Rattle.fcg_grammar.specs.Number as number
use Rattle.fcg_grammar.specs.Spell.{IsBytes, u2, u4}
use Rattle.fcg_grammar.proofs.Standing as standing
use Rattle.fcg_grammar.proofs.Standing.{Stands}
use Rattle.fcg_partial.specs.declared.fault.RecordRule.TheVariants.{Cut}
use Rattle.fcg_partial.specs.Fault.{fault, u1_at, u2_at, u4_at, part_at}

pub u1_found : (bytes : List ℕ) (at n : ℕ) → u1_at bytes at ≡ Ok n → Stands bytes at (n ∷ []) (at + 1)
u1_found bytes at n e = standing.u1_found (fault at Cut) bytes at n e

pub u1_only : (bytes : List ℕ) (at n : ℕ) (rest : List ℕ) (after : ℕ) → Stands bytes at (n ∷ rest) after → (u1_at bytes at ≡ Ok n) × Stands bytes (at + 1) rest after
u1_only bytes at n rest after s = standing.u1_only (fault at Cut) bytes at n rest after s

pub u2_found : (bytes : List ℕ) (at n : ℕ) → IsBytes bytes → u2_at bytes at ≡ Ok n → Stands bytes at (u2 n) (at + 2) × (n < 2 ^ 16)
u2_found bytes at n are e = standing.u2_found (fault at Cut) bytes at n are e

pub u2_only : (bytes : List ℕ) (at n : ℕ) (rest : List ℕ) (after : ℕ) → n < 2 ^ 16 → Stands bytes at (u2 n ++ rest) after → (u2_at bytes at ≡ Ok n) × Stands bytes (at + 2) rest after
u2_only bytes at n rest after lt s = standing.u2_only (fault at Cut) bytes at n rest after lt s

pub u4_found : (bytes : List ℕ) (at n : ℕ) → IsBytes bytes → u4_at bytes at ≡ Ok n → Stands bytes at (u4 n) (at + 4) × (n < 2 ^ 32)
u4_found bytes at n are e = standing.u4_found (fault at Cut) bytes at n are e

pub u4_only : (bytes : List ℕ) (at n : ℕ) (rest : List ℕ) (after : ℕ) → n < 2 ^ 32 → Stands bytes at (u4 n ++ rest) after → (u4_at bytes at ≡ Ok n) × Stands bytes (at + 4) rest after
u4_only bytes at n rest after lt s = standing.u4_only (fault at Cut) bytes at n rest after lt s

pub part_found : (bytes : List ℕ) (at n : ℕ) (text : List ℕ) → part_at bytes at n ≡ Ok text → Stands bytes at text (at + n) × (length text ≡ n) × (number.part bytes at n ≡ text)
part_found bytes at n text e = standing.part_found (fault at Cut) bytes at n text e

pub part_only : (bytes : List ℕ) (at : ℕ) (text rest : List ℕ) (after : ℕ) → Stands bytes at (text ++ rest) after → (part_at bytes at (length text) ≡ Ok text) × Stands bytes (at + length text) rest after
part_only bytes at text rest after s = standing.part_only (fault at Cut) bytes at text rest after s
