-- The counts of sites.
use Rattle.std.proofs.Common.{◌≡◌, ℕ, ◌+◌, ◌≤◌, List, [], ◌∷◌, length, refl, sym, ap, ◌∙◌, arith}
use Rattle.std.specs.Prelude.{Bool, cond, flat_map, sum_by, count_by}
use Rattle.std.proofs.lemmas.List.{length-map}
use Rattle.std.proofs.lemmas.List.Concat.{length-flat_map}
use Rattle.std.proofs.lemmas.List.Sums.{sum_by-append, sum_by-cons}
use Rattle.fcg_analysis.specs.Declarations.{Placed}
use Rattle.fcg_analysis.specs.Nodes.{nodes}
use Rattle.fcg_analysis.specs.Edges.{Status, IsNoCall, IsMethod, IsPhantom, IsFailed, status, statuses_of, statuses, is_phantom_status, is_failed_status, phantoms, failed}

sum_joined : {X Y : Type 0} (g : Y → ℕ) (f : X → List Y) (xs : List X) → sum_by g (flat_map f xs) ≡ sum_by (λ x. sum_by g (f x)) xs
sum_joined g f [] = refl
sum_joined g f (x ∷ xs) = sum_by-append g (f x) (flat_map f xs) ∙ ap (λ n. sum_by g (f x) + n) (sum_joined g f xs) ∙ sym (sum_by-cons (λ x. sum_by g (f x)) x xs)

count_joined : {X Y : Type 0} (p : Y → Bool) (f : X → List Y) (xs : List X) → count_by p (flat_map f xs) ≡ sum_by (λ x. count_by p (f x)) xs
count_joined p f xs = sum_joined (λ y. cond (p y) 1 0) f xs

pub count_of_sites : (types : List Placed) → length (statuses types) ≡ sum_by (λ m. length m.method.sites) (nodes types)
unfolding statuses
count_of_sites types = length-flat_map (statuses_of types) (nodes types) ∙ ap (λ f. sum_by f (nodes types)) (λ i m. length-map m.method.sites (status types) i)

pub count_of : (types : List Placed) (p : Status → Bool) → count_by p (statuses types) ≡ sum_by (λ m. count_by p (statuses_of types m)) (nodes types)
unfolding statuses
count_of types p = count_joined p (statuses_of types) (nodes types)

count_one : (p : Status → Bool) (s : Status) (ss : List Status) → count_by p (s ∷ ss) ≡ cond (p s) 1 0 + count_by p ss
count_one p s ss = sum_by-cons (λ y. cond (p y) 1 0) s ss

one_at_most : (ss : List Status) → count_by is_phantom_status ss + count_by is_failed_status ss ≤ length ss
one_at_most [] = omega (arith, count_none is_phantom_status, count_none is_failed_status)
  where
    count_none : (p : Status → Bool) → count_by p [] ≡ 0
    count_none p = refl
one_at_most (s ∷ ss) = at s (one_at_most ss)
  where
    at : (s : Status) → count_by is_phantom_status ss + count_by is_failed_status ss ≤ length ss → count_by is_phantom_status (s ∷ ss) + count_by is_failed_status (s ∷ ss) ≤ length (s ∷ ss)
    at IsNoCall h = let a : count_by is_phantom_status (IsNoCall ∷ ss) ≡ 0 + count_by is_phantom_status ss = count_one is_phantom_status IsNoCall ss in
        let b : count_by is_failed_status (IsNoCall ∷ ss) ≡ 0 + count_by is_failed_status ss = count_one is_failed_status IsNoCall ss in omega arith
    at IsMethod h = let a : count_by is_phantom_status (IsMethod ∷ ss) ≡ 0 + count_by is_phantom_status ss = count_one is_phantom_status IsMethod ss in
        let b : count_by is_failed_status (IsMethod ∷ ss) ≡ 0 + count_by is_failed_status ss = count_one is_failed_status IsMethod ss in omega arith
    at IsPhantom h = let a : count_by is_phantom_status (IsPhantom ∷ ss) ≡ 1 + count_by is_phantom_status ss = count_one is_phantom_status IsPhantom ss in
        let b : count_by is_failed_status (IsPhantom ∷ ss) ≡ 0 + count_by is_failed_status ss = count_one is_failed_status IsPhantom ss in omega arith
    at (IsFailed c) h = let a : count_by is_phantom_status (IsFailed c ∷ ss) ≡ 0 + count_by is_phantom_status ss = count_one is_phantom_status (IsFailed c) ss in
        let b : count_by is_failed_status (IsFailed c ∷ ss) ≡ 1 + count_by is_failed_status ss = count_one is_failed_status (IsFailed c) ss in omega arith

pub no_more : (types : List Placed) → phantoms types + failed types ≤ length (statuses types)
no_more types = one_at_most (statuses types)
