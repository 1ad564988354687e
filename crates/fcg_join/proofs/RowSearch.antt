-- A search between two numbers in a row that rises.
use Rattle.std.proofs.Common.{◌≡◌, ℕ, ◌<◌, ◌≤◌, List, length, get_or, ltb, ap, ◌∙◌, inl, inr, arith}
use Rattle.std.specs.Prelude.{true, false, Contains}
use Rattle.std.specs.List.Sorted.{IsStrictlyIncreasing, IsNonDecreasingBy, IsPartitionPoint}
use Rattle.std.proofs.lemmas.Bool.{cases_eq, cases_lt, ltb-true, ltb-false}
use Rattle.std.proofs.lemmas.List.{get_or_default}
use Rattle.std.proofs.lemmas.List.Kept.{AllPairs-from_increasing}

pub rising_row : (ks : List ℕ) → IsStrictlyIncreasing ks → IsNonDecreasingBy (λ k. k) ks
rising_row ks up i j d a b = elim (cases_eq i j) [
  | inl e ↦ (let q = ap (λ k. get_or ks k d) e in omega arith)
  | inr ne ↦ (let q = AllPairs-from_increasing ks up i j d (omega arith) b in omega arith)
]

module _ (ks : List ℕ) (from' place : ℕ) (p : IsPartitionPoint (λ k. ltb k from' ≡ true) (λ k. ltb k from' ≡ false) ks place) where
  pub none_before : (i : ℕ) → i < length ks → from' ≤ get_or ks i 0 → place ≤ i
  none_before i l f = elim (cases_lt i place) [
    | inl b ↦ (let q = ltb-true (get_or ks i 0) from' (p.0 i 0 (omega arith) b) in absurd (omega arith))
    | inr b ↦ b
  ]

  pub found_from : place < length ks → from' ≤ get_or ks place 0
  found_from l = ltb-false (get_or ks place 0) from' (p.1 place 0 (omega arith) l)

  pub none_there : IsStrictlyIncreasing ks → (until : ℕ) → (place < length ks → until ≤ get_or ks place 0) → (k : ℕ) → Contains ks k → from' ≤ k → k < until → ⊥
  none_there up until past k c f u =
      let here = get_or_default ks c.0 0 k c.1 ∙ c.2 in
      let after = none_before c.0 c.1 (omega arith) in
      let l : place < length ks = (let b = c.1 in omega arith) in
      let high = past l in
      let rise = rising_row ks up place c.0 0 after c.1 in
      omega arith
