-- Lists of what may not be made yet.
use Rattle.std.proofs.Common.{◌≡◌, ℕ, zero, suc, List, [], ◌∷◌, ◌++◌, get_or, Option, None, refl}

pub get_or-none : {X : Type 0} (xs : List (Option X)) (i : ℕ) → get_or (xs ++ None ∷ []) i None ≡ get_or xs i None
get_or-none [] zero = refl
get_or-none [] (suc i) = refl
get_or-none (x ∷ xs) zero = refl
get_or-none (x ∷ xs) (suc i) = get_or-none xs i
