-- Going over the groups of a text.
use Rattle.std.proofs.Common.{◌≡◌, ℕ, zero, suc, ◌+◌, ◌≤◌, ◌<◌, true, false, cond, List, [], ◌∷◌, length, drop, Option, Some, None, refl, arith}
use Rattle.fcg_classfile.specs.Breaks.Groups.{is_single, is_pair, is_triple, bad_group}
use Rattle.fcg_classfile.specs.Internal.Group.{group_len}

-- what a group of this many bytes at the front leads to, where bad_group gives a value
abbrev Goes : ℕ → Option ℕ → ℕ → List ℕ → Type 0
Goes zero value at text = value ≡ Some at
Goes (suc n) value at text = (value ≡ bad_group (at + suc n) (drop (suc n) text)) × (suc n ≤ length text)

pub group_goes : (at : ℕ) (text : List ℕ) → 0 < length text → Goes (group_len text) (bad_group at text) at text
unfolding bad_group
group_goes at [] some = absurd (omega arith)
group_goes at (a ∷ []) some =
    elim (is_single a) as (λ s. Goes (cond s 1 0) (cond s None (Some at)) at (a ∷ [])) [
      | true ↦ (refl, omega arith)
      | false ↦ refl
    ]
group_goes at (a ∷ b ∷ []) some =
    elim (is_single a) as (λ s. Goes (cond s 1 (cond (is_pair a b) 2 0)) (cond s (bad_group (at + 1) (b ∷ [])) (cond (is_pair a b) None (Some at))) at (a ∷ b ∷ [])) [
      | true ↦ (refl, omega arith)
      | false ↦ elim (is_pair a b) as (λ s. Goes (cond s 2 0) (cond s None (Some at)) at (a ∷ b ∷ [])) [
        | true ↦ (refl, omega arith)
        | false ↦ refl
      ]
    ]
group_goes at (a ∷ b ∷ c ∷ rest) some =
    elim (is_single a) as (λ s. Goes (cond s 1 (cond (is_pair a b) 2 (cond (is_triple a b c) 3 0))) (cond s (bad_group (at + 1) (b ∷ c ∷ rest)) (cond (is_pair a b) (bad_group (at + 2) (c ∷ rest)) (cond (is_triple a b c) (bad_group (at + 3) rest) (Some at)))) at (a ∷ b ∷ c ∷ rest)) [
      | true ↦ (refl, omega arith)
      | false ↦ elim (is_pair a b) as (λ s. Goes (cond s 2 (cond (is_triple a b c) 3 0)) (cond s (bad_group (at + 2) (c ∷ rest)) (cond (is_triple a b c) (bad_group (at + 3) rest) (Some at))) at (a ∷ b ∷ c ∷ rest)) [
        | true ↦ (refl, omega arith)
        | false ↦ elim (is_triple a b c) as (λ s. Goes (cond s 3 0) (cond s (bad_group (at + 3) rest) (Some at)) at (a ∷ b ∷ c ∷ rest)) [
          | true ↦ (refl, omega arith)
          | false ↦ refl
        ]
      ]
    ]

goes_none : (n : ℕ) (value : Option ℕ) (at : ℕ) (text : List ℕ) → Goes n value at text → n ≡ 0 → value ≡ Some at
goes_none zero value at text g e = g
goes_none (suc n) value at text g e = absurd cc

goes_some : (n : ℕ) (value : Option ℕ) (at : ℕ) (text : List ℕ) → Goes n value at text → 0 < n → (value ≡ bad_group (at + n) (drop n text)) × (n ≤ length text)
goes_some zero value at text g lt = absurd (omega arith)
goes_some (suc n) value at text g lt = g

pub group_none : (at : ℕ) (text : List ℕ) → 0 < length text → group_len text ≡ 0 → bad_group at text ≡ Some at
group_none at text some e = goes_none (group_len text) (bad_group at text) at text (group_goes at text some) e

pub group_some : (at : ℕ) (text : List ℕ) → 0 < length text → 0 < group_len text → (bad_group at text ≡ bad_group (at + group_len text) (drop (group_len text) text)) × (group_len text ≤ length text)
group_some at text some lt = goes_some (group_len text) (bad_group at text) at text (group_goes at text some) lt

pub group_end : (at : ℕ) (text : List ℕ) → length text ≡ 0 → bad_group at text ≡ None
unfolding bad_group
group_end at [] e = refl
group_end at (b ∷ rest) e = absurd (omega arith)
