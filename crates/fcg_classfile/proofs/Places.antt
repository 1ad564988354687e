-- Numbers and strings of bytes at a place of a class file: what is read is spelled so, and what is spelled so is read.
use Rattle.std.proofs.Common.{◌≡◌, ℕ, ◌+◌, ◌^◌, ◌<◌, List, [], ◌++◌, length, sym, subst, arith}
use Rattle.std.specs.Prelude.{Ok}
use Rattle.std.proofs.lemmas.List.{append-nil, length-append}
use Rattle.fcg_grammar.specs.Number.{part}
use Rattle.fcg_grammar.specs.Spell.{IsBytes, u2, u4}
use Rattle.fcg_grammar.proofs.Standing as standing
use Rattle.fcg_grammar.proofs.Standing.{Stands}
use Rattle.fcg_classfile.specs.declared.fault.ClassRule.TheVariants.{Cut}
use Rattle.fcg_classfile.specs.Breaks.Fault.{fault}
use Rattle.fcg_classfile.specs.Breaks.Number.{u2_at, u4_at, part_at}

pub u2_found : (bytes : List ℕ) (at index n : ℕ) → IsBytes bytes → u2_at bytes at index ≡ Ok n → Stands bytes at (u2 n) (at + 2) × (n < 2 ^ 16)
u2_found bytes at index n fits e = standing.u2_found (fault at index Cut) bytes at n fits e

pub u2_only : (bytes : List ℕ) (at index n : ℕ) (rest : List ℕ) (after : ℕ) → n < 2 ^ 16 → Stands bytes at (u2 n ++ rest) after → (u2_at bytes at index ≡ Ok n) × Stands bytes (at + 2) rest after
u2_only bytes at index n rest after lt s = standing.u2_only (fault at index Cut) bytes at n rest after lt s

pub u4_found : (bytes : List ℕ) (at index n : ℕ) → IsBytes bytes → u4_at bytes at index ≡ Ok n → Stands bytes at (u4 n) (at + 4) × (n < 2 ^ 32)
u4_found bytes at index n fits e = standing.u4_found (fault at index Cut) bytes at n fits e

pub u4_only : (bytes : List ℕ) (at index n : ℕ) (rest : List ℕ) (after : ℕ) → n < 2 ^ 32 → Stands bytes at (u4 n ++ rest) after → (u4_at bytes at index ≡ Ok n) × Stands bytes (at + 4) rest after
u4_only bytes at index n rest after lt s = standing.u4_only (fault at index Cut) bytes at n rest after lt s

pub part_found : (bytes : List ℕ) (at n index : ℕ) (text : List ℕ) → part_at bytes at n index ≡ Ok text → Stands bytes at text (at + n) × (length text ≡ n) × (part bytes at n ≡ text)
part_found bytes at n index text e = standing.part_found (fault at index Cut) bytes at n text e

pub part_only : (bytes : List ℕ) (at index : ℕ) (text rest : List ℕ) (after : ℕ) → Stands bytes at (text ++ rest) after → (part_at bytes at (length text) index ≡ Ok text) × Stands bytes (at + length text) rest after
part_only bytes at index text rest after s = standing.part_only (fault at index Cut) bytes at text rest after s

-- a listing ends with nothing
pub closed : {bytes : List ℕ} {at : ℕ} {after : ℕ} (front last : List ℕ) → Stands bytes at (front ++ last) after → Stands bytes at (front ++ (last ++ [])) after
closed {bytes} {at} {after} front last s = subst (λ (l : List ℕ). Stands bytes at (front ++ l) after) (sym (append-nil last)) s

pub opened : {bytes : List ℕ} {at : ℕ} {after : ℕ} (front last rest : List ℕ) → Stands bytes at (front ++ ((last ++ []) ++ rest)) after → Stands bytes at (front ++ (last ++ rest)) after
opened {bytes} {at} {after} front last rest s = subst (λ (l : List ℕ). Stands bytes at (front ++ (l ++ rest)) after) (append-nil last) s

-- where a row ends
pub row_end : (bytes : List ℕ) (at end after : ℕ) (text rest : List ℕ) → Stands bytes at (text ++ rest) after → Stands bytes end rest after → end ≡ at + length text
row_end bytes at end after text rest s t = let a = s.ends in let b = t.ends in omega (arith, a, b, length-append text rest)
