-- Rows of numbers that rise, and rows that are disjoint.
use Rattle.std.proofs.Common.{◌≡◌, ℕ, ◌+◌, ◌<◌, List, [], ◌∷◌, length, refl, arith}
use Rattle.std.specs.Prelude.{◌↔◌, Bool, true, false, cond, ◌||◌, All, filter, Contains}
use Rattle.std.specs.List.{range_with_len}
use Rattle.std.specs.List.Sorted.{IsStrictlyIncreasing}
use Rattle.std.proofs.lemmas.List.Elements.{All-contains}
use Rattle.fcg_analysis.proofs.General.Numbered.{rising_is_filter}

pub sorted_is_filter : (n : ℕ) (leads : ℕ → Bool) (row : List ℕ) → IsStrictlyIncreasing row → All (λ b. b < n) row → ((b : ℕ) → b < n → (leads b ≡ true) ↔ Contains row b) → row ≡ filter leads (range_with_len 0 n)
sorted_is_filter n leads row s w h =
    rising_is_filter n leads row s
    (λ b c. let l = All-contains (λ b. b < n) row b w c in (l, (h b l).1 c))
    (λ b l t. (h b l).0 t)

pub counts_add : (p q : ℕ → Bool) (ks : List ℕ) → ((k : ℕ) → p k ≡ true → q k ≡ true → ⊥) → length (filter (λ k. p k || q k) ks) ≡ length (filter p ks) + length (filter q ks)
counts_add p q [] h = refl
counts_add p q (k ∷ ks) h = at (p k) (q k) refl refl (counts_add p q ks h)
  where
    at : (b c : Bool) → p k ≡ b → q k ≡ c → length (filter (λ k. p k || q k) ks) ≡ length (filter p ks) + length (filter q ks)
        → length (cond (b || c) (k ∷ filter (λ k. p k || q k) ks) (filter (λ k. p k || q k) ks)) ≡ length (cond b (k ∷ filter p ks) (filter p ks)) + length (cond c (k ∷ filter q ks) (filter q ks))
    at true true e f r = absurd (h k e f)
    at true false e f r = omega (arith, r)
    at false true e f r = omega (arith, r)
    at false false e f r = r
