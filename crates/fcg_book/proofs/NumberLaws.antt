-- Numbers of eight bytes: what is read is spelled so, and what is spelled so is read.
use Rattle.std.proofs.Common.{◌≡◌, ℕ, ◌+◌, ◌*◌, ◌/◌, ◌%◌, ◌^◌, ◌<◌, List, ◌++◌, ap, subst, append_assoc, arith}
use Rattle.std.specs.Prelude.{Ok, Result}
use Rattle.fcg_grammar.specs.Spell.{IsBytes, u4}
use Rattle.fcg_grammar.proofs.Standing.{Stands, Stands-then, Stands-to, u4_found, u4_only}
use Rattle.fcg_grammar.proofs.Standing as standing
use Rattle.fcg_grammar.proofs.LawLemmas.{bind_ok}
use Rattle.fcg_partial.specs.declared.fault.RecordRule.{RecordRule}
use Rattle.fcg_partial.specs.declared.fault.RecordRule.TheVariants.{Cut}
use Rattle.fcg_book.specs.Spelling.{u8}
use Rattle.fcg_book.specs.Reading.{u4_at, u8_at}

upper_is : (a b : ℕ) → b < 2 ^ 32 → (a * 2 ^ 32 + b) / 2 ^ 32 ≡ a
upper_is a b low = omega (arith, low)

lower_is : (a b : ℕ) → b < 2 ^ 32 → (a * 2 ^ 32 + b) % 2 ^ 32 ≡ b
lower_is a b low = omega (arith, low)

below : (a b : ℕ) → a < 2 ^ 32 → b < 2 ^ 32 → a * 2 ^ 32 + b < 2 ^ 64
below a b la lb = omega (arith, la, lb)

halves : (n : ℕ) → (n / 2 ^ 32) * 2 ^ 32 + n % 2 ^ 32 ≡ n
halves n = omega arith

upper_fits : (n : ℕ) → n < 2 ^ 64 → n / 2 ^ 32 < 2 ^ 32
upper_fits n fits = omega (arith, fits)

lower_fits : (n : ℕ) → n % 2 ^ 32 < 2 ^ 32
lower_fits n = omega arith

eight_on : (at : ℕ) → at + 4 + 4 ≡ at + 8
eight_on at = omega arith

pub u8_found : (bytes : List ℕ) (at n : ℕ) → IsBytes bytes → u8_at bytes at ≡ Ok n → Stands bytes at (u8 n) (at + 8) × (n < 2 ^ 64)
unfolding u8_at
u8_found bytes at n are e =
    let a = bind_ok (u4_at bytes at) _ n e in
    let b = bind_ok (u4_at bytes (at + 4)) _ n a.2 in
    let upper = u4_found Cut bytes at a.0 are a.1 in
    let lower = u4_found Cut bytes (at + 4) b.0 are b.1 in
    let is : a.0 * 2 ^ 32 + b.0 ≡ n = standing.ok_is _ n b.2 in
    let up : n / 2 ^ 32 ≡ a.0 = subst (λ (m : ℕ). m / 2 ^ 32 ≡ a.0) is (upper_is a.0 b.0 lower.1) in
    let low : n % 2 ^ 32 ≡ b.0 = subst (λ (m : ℕ). m % 2 ^ 32 ≡ b.0) is (lower_is a.0 b.0 lower.1) in
    let both : Stands bytes at (u4 a.0 ++ u4 b.0) (at + 8) = Stands-to (at + 8) (eight_on at) (Stands-then upper.0 lower.0) in
    (rw (up, low) both, subst (λ (m : ℕ). m < 2 ^ 64) is (below a.0 b.0 upper.1 lower.1))

abbrev read : ℕ → Result ℕ RecordRule
read m = Ok m

pub u8_only : (bytes : List ℕ) (at n : ℕ) (rest : List ℕ) (after : ℕ) → n < 2 ^ 64 → Stands bytes at (u8 n ++ rest) after → (u8_at bytes at ≡ Ok n) × Stands bytes (at + 8) rest after
unfolding u8_at
u8_only bytes at n rest after fits s =
    let s' : Stands bytes at (u4 (n / 2 ^ 32) ++ (u4 (n % 2 ^ 32) ++ rest)) after = subst (λ (t : List ℕ). Stands bytes at t after) (append_assoc (u4 (n / 2 ^ 32)) (u4 (n % 2 ^ 32)) rest) s in
    let a = u4_only Cut bytes at (n / 2 ^ 32) (u4 (n % 2 ^ 32) ++ rest) after (upper_fits n fits) s' in
    let b = u4_only Cut bytes (at + 4) (n % 2 ^ 32) rest after (lower_fits n) a.1 in
    (rw (a.0, b.0) (ap (λ (m : ℕ). read m) (halves n)), subst (λ (m : ℕ). Stands bytes m rest after) (eight_on at) b.1)
