-- Numbers in a row.
use Rattle.std.proofs.Common.{◌≡◌, ℕ, zero, suc, ◌+◌, ◌<◌, ◌≤◌, length, refl, sym, ap, ◌∙◌, inl, inr, arith, eqb}
use Rattle.std.specs.Prelude.{Bool, true, false, cond, ◌⊎◌, find, Some}
use Rattle.std.specs.List.{range_with_len}
use Rattle.std.proofs.lemmas.Bool.{cases_Bool}
use Rattle.std.proofs.lemmas.Bool.Decides.{Decides-eqb}
use Rattle.fcg_analysis.proofs.General.Members.{IsIn}

pub range_in : (a n m : ℕ) → a ≤ m → m < a + n → IsIn m (range_with_len a n)
range_in a zero m l h = absurd (omega arith)
range_in a (suc n) m l h = at (eqb a m) refl (range_in (a + 1) n m)
  where
    at : (b : Bool) → eqb a m ≡ b → (a + 1 ≤ m → m < a + 1 + n → IsIn m (range_with_len (a + 1) n)) → (a ≡ m) ⊎ IsIn m (range_with_len (a + 1) n)
    at true e r = inl ((Decides-eqb a m).0 e)
    at false e r =
        let ne : a ≡ m → ⊥ = (λ k. let t : eqb a m ≡ true = (Decides-eqb a m).1 k in cc) in
        inr (r (omega arith) (omega arith))

pub in_range : (a n m : ℕ) → IsIn m (range_with_len a n) → (a ≤ m) × (m < a + n)
in_range a zero m h = absurd h
in_range a (suc n) m (inl e) = (omega arith, omega arith)
in_range a (suc n) m (inr h) = let r : (a + 1 ≤ m) × (m < a + 1 + n) = in_range (a + 1) n m h in (omega arith, omega arith)

-- the first number that passes
pub find_least : (p : ℕ → Bool) (a n d : ℕ) → find p (range_with_len a n) ≡ Some d → (p d ≡ true) × ((k : ℕ) → a ≤ k → p k ≡ true → d ≤ k)
find_least p a zero d h = absurd (cc)
find_least p a (suc n) d h = at (p a) refl (find_least p (a + 1) n d) h
  where
    at : (b : Bool) → p a ≡ b → (find p (range_with_len (a + 1) n) ≡ Some d → (p d ≡ true) × ((k : ℕ) → a + 1 ≤ k → p k ≡ true → d ≤ k))
        → cond b (Some a) (find p (range_with_len (a + 1) n)) ≡ Some d → (p d ≡ true) × ((k : ℕ) → a ≤ k → p k ≡ true → d ≤ k)
    at true e r k = let same : a ≡ d = cc in (sym (ap p same) ∙ e, λ j l t. omega arith)
    at false e r k =
        let s = r k in (
          s.0,
          λ j l t. (elim (cases_Bool (eqb a j)) [
            | inl q ↦ absurd (let w : p a ≡ p j = ap p ((Decides-eqb a j).0 q) in cc)
            | inr q ↦ (let ne : a ≡ j → ⊥ = (λ v. let t : eqb a j ≡ true = (Decides-eqb a j).1 v in cc) in s.1 j (omega arith) t)
          ]),
        )

pub length-range : (a n : ℕ) → length (range_with_len a n) ≡ n
length-range a zero = refl
length-range a (suc n) = ap suc (length-range (a + 1) n)
