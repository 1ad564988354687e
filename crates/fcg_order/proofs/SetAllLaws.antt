-- One value at many places of a list.
use Rattle.std.proofs.Common.{◌≡◌, ℕ, zero, suc, ◌<◌, List, [], ◌∷◌, length, get_or, set, refl, sym, ap, ◌∙◌, inl, inr, arith}
use Rattle.std.specs.Prelude.{◌⊎◌}
use Rattle.std.proofs.lemmas.Bool.{cases_eq}
use Rattle.std.proofs.lemmas.List.{length-set, get_or-set_same, get_or-set_other}
use Rattle.fcg_order.specs.Internal.Search.{set_all}

pub length-set_all : {X : Type 0} (xs : List X) (vs : List ℕ) (x : X) → length (set_all xs vs x) ≡ length xs
length-set_all xs [] x = refl
length-set_all xs (v ∷ vs) x = length-set_all (set xs v x) vs x ∙ length-set xs v x

pub set_all_keeps : {X : Type 0} (xs : List X) (vs : List ℕ) (x d : X) (w : ℕ) → w < length xs → get_or xs w d ≡ x → get_or (set_all xs vs x) w d ≡ x
set_all_keeps xs [] x d w l e = e
set_all_keeps {X} xs (v ∷ vs) x d w l e = set_all_keeps (set xs v x) vs x d w (let m = length-set xs v x in omega arith) (at (cases_eq w v))
  where
    at : (w ≡ v) ⊎ (w ≡ v → ⊥) → get_or (set xs v x) w d ≡ x
    at (inl q) = ap (λ i. get_or (set xs i x) w d) (sym q) ∙ get_or-set_same xs w x d l
    at (inr ne) = get_or-set_other xs v w x d ne ∙ e

pub set_all_in : {X : Type 0} (xs : List X) (vs : List ℕ) (x d : X) (k : ℕ) → k < length vs → get_or vs k 0 < length xs → get_or (set_all xs vs x) (get_or vs k 0) d ≡ x
set_all_in xs [] x d k l b = absurd (omega arith)
set_all_in xs (v ∷ vs) x d zero l b = set_all_keeps (set xs v x) vs x d v (let m = length-set xs v x in omega arith) (get_or-set_same xs v x d b)
set_all_in xs (v ∷ vs) x d (suc k) l b = set_all_in (set xs v x) vs x d k (omega arith) (let m = length-set xs v x in omega arith)

pub set_all_out : {X : Type 0} (xs : List X) (vs : List ℕ) (x d : X) (w : ℕ) → ((k : ℕ) → k < length vs → get_or vs k 0 ≡ w → ⊥) → get_or (set_all xs vs x) w d ≡ get_or xs w d
set_all_out xs [] x d w n = refl
set_all_out xs (v ∷ vs) x d w n =
    set_all_out (set xs v x) vs x d w (λ k l e. n (suc k) (omega arith) e) ∙ get_or-set_other xs v w x d (λ q. n 0 (omega arith) (sym q))
