-- The package of a name, byte by byte.
use Rattle.std.proofs.Common.{◌≡◌, ℕ, ◌+◌, ◌<◌, List, [], ◌∷◌, ◌++◌, length, take, get_or, refl, sym, ap, ◌∙◌}
use Rattle.std.specs.Prelude.{Bool, true, false, cond, ◌==◌, Option, Some, None}
use Rattle.std.proofs.lemmas.Bool.{eqb-true}
use Rattle.std.proofs.lemmas.List.{take_more}
use Rattle.fcg_analysis.specs.NamesAndFlags.{package_of, before_last_slash, package_with, or_empty}

slash_last : (xs : List ℕ) (b : ℕ) → (b == 47) ≡ true → before_last_slash (xs ++ b ∷ []) ≡ Some xs
slash_last [] b e = ap (λ t. cond t (Some []) None) e
slash_last (x ∷ xs) b e = ap (λ o. package_with o x (xs ++ b ∷ [])) (slash_last xs b e)

other_last : (xs : List ℕ) (b : ℕ) → (b == 47) ≡ false → before_last_slash (xs ++ b ∷ []) ≡ before_last_slash xs
other_last [] b e = ap (λ t. cond t (Some []) None) e
other_last (x ∷ xs) b e = at (before_last_slash xs) (other_last xs b e)
  where
    at : (o : Option (List ℕ)) → before_last_slash (xs ++ b ∷ []) ≡ o → package_with (before_last_slash (xs ++ b ∷ [])) x (xs ++ b ∷ []) ≡ package_with o x xs
    at None k = ap (λ o. package_with o x (xs ++ b ∷ [])) k
    at (Some p) k = ap (λ o. package_with o x (xs ++ b ∷ [])) k

-- one byte more
pub more : (xs : List ℕ) (b : ℕ) → package_of (xs ++ b ∷ []) ≡ cond (b == 47) xs (package_of xs)
more xs b = at (b == 47) refl
  where
    at : (t : Bool) → (b == 47) ≡ t → package_of (xs ++ b ∷ []) ≡ cond t xs (package_of xs)
    at true e = ap or_empty (slash_last xs b e)
    at false e = ap or_empty (other_last xs b e)

-- the first k bytes, and one more
pub one_more : (xs : List ℕ) (k : ℕ) → k < length xs → package_of (take (k + 1) xs) ≡ cond (get_or xs k 0 == 47) (take k xs) (package_of (take k xs))
one_more xs k l = ap package_of (take_more xs k 0 l) ∙ more (take k xs) (get_or xs k 0)

pub at_slash : (xs : List ℕ) (k end : ℕ) → k < length xs → get_or xs k 0 ≡ 47 → end ≡ k → take end xs ≡ package_of (take (k + 1) xs)
at_slash xs k end l e q = ap (λ n. take n xs) q ∙ sym (one_more xs k l ∙ ap (λ b. cond (b == 47) (take k xs) (package_of (take k xs))) e)

pub at_other : (xs : List ℕ) (k end old : ℕ) → k < length xs → (get_or xs k 0 ≡ 47 → ⊥) → end ≡ old → take old xs ≡ package_of (take k xs) → take end xs ≡ package_of (take (k + 1) xs)
at_other xs k end old l n e q =
    ap (λ m. take m xs) e ∙ q ∙ sym (one_more xs k l ∙ ap (λ b. cond b (take k xs) (package_of (take k xs))) (no (get_or xs k 0 == 47) refl))
  where
    no : (b : Bool) → (get_or xs k 0 == 47) ≡ b → (get_or xs k 0 == 47) ≡ false
    no false t = t
    no true t = absurd (n (eqb-true (get_or xs k 0) 47 t))
