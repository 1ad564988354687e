-- Numbers and strings of bytes at a place of a pool: what is read is spelled so, and what is spelled so is read.
use Rattle.std.proofs.Common.{◌≡◌, ℕ, ◌+◌, ◌^◌, ◌<◌, List, [], ◌∷◌, ◌++◌, length}
use Rattle.std.specs.Prelude.{Ok}
use Rattle.fcg_grammar.specs.Spell.{IsBytes, u2}
use Rattle.fcg_grammar.proofs.Standing as standing
use Rattle.fcg_grammar.proofs.Standing.{Stands}
use Rattle.fcg_classfile.specs.declared.fault.PoolRule.TheVariants.{Cut}
use Rattle.fcg_classfile.specs.Breaks.Pool.{pool_fault, u1_at, u2_at, part_at}

pub u1_found : (bytes : List ℕ) (at n : ℕ) → u1_at bytes at ≡ Ok n → Stands bytes at (n ∷ []) (at + 1)
u1_found bytes at n e = standing.u1_found (pool_fault at 0 Cut) bytes at n e

pub u1_only : (bytes : List ℕ) (at n : ℕ) (rest : List ℕ) (after : ℕ) → Stands bytes at (n ∷ rest) after → (u1_at bytes at ≡ Ok n) × Stands bytes (at + 1) rest after
u1_only bytes at n rest after s = standing.u1_only (pool_fault at 0 Cut) bytes at n rest after s

pub u2_found : (bytes : List ℕ) (at n : ℕ) → IsBytes bytes → u2_at bytes at ≡ Ok n → Stands bytes at (u2 n) (at + 2) × (n < 2 ^ 16)
u2_found bytes at n fits e = standing.u2_found (pool_fault at 0 Cut) bytes at n fits e

pub u2_only : (bytes : List ℕ) (at n : ℕ) (rest : List ℕ) (after : ℕ) → n < 2 ^ 16 → Stands bytes at (u2 n ++ rest) after → (u2_at bytes at ≡ Ok n) × Stands bytes (at + 2) rest after
u2_only bytes at n rest after lt s = standing.u2_only (pool_fault at 0 Cut) bytes at n rest after lt s

pub part_found : (bytes : List ℕ) (at n : ℕ) (text : List ℕ) → part_at bytes at n ≡ Ok text → Stands bytes at text (at + n) × (length text ≡ n)
part_found bytes at n text e = let found = standing.part_found (pool_fault at 0 Cut) bytes at n text e in (found.0, found.1)

pub part_only : (bytes : List ℕ) (at : ℕ) (text rest : List ℕ) (after : ℕ) → Stands bytes at (text ++ rest) after → (part_at bytes at (length text) ≡ Ok text) × Stands bytes (at + length text) rest after
part_only bytes at text rest after s = standing.part_only (pool_fault at 0 Cut) bytes at text rest after s
