-- The next number that passes, by tests that agree.
use Rattle.std.proofs.Common.{◌≡◌, ℕ, ◌+◌, ◌<◌, ◌≤◌, List, length, get_or, take, refl, sym, ap, ◌∙◌}
use Rattle.std.specs.Prelude.{Bool, true, false, ◌||◌, Option, Some, None}
use Rattle.std.proofs.lemmas.List.{take_all}
use Rattle.std.proofs.lemmas.List.Folds.{list_any_more}
use Rattle.fcg_order.specs.Links.{row}
use Rattle.fcg_edges.specs.Rows.{Rows, has, any_has, leads}
use Rattle.fcg_edges.specs.Internal.Counts.{IsNext}

next_alike : (p q : ℕ → Bool) (b : ℕ) (o : Option ℕ) → ((k : ℕ) → p k ≡ q k) → IsNext p b o → IsNext q b o
next_alike p q b None e h = λ k l t. h k l (e k ∙ t)
next_alike p q b (Some t) e h = (h.0, sym (e t) ∙ h.1, λ k l u. h.2 k l (e k ∙ u))

or_joined : (a b c : Bool) → ((a || b) || c) ≡ (a || (b || c))
or_joined true b c = refl
or_joined false b c = refl

-- with the next of a row's lists
pub next_with_list : (ts us : List ℕ) (lists : List (List ℕ)) (i b : ℕ) (o : Option ℕ) → i < length us
    → IsNext (λ k. (has ts k || any_has lists (take i us) k) || has (row lists (get_or us i 0)) k) b o → IsNext (λ k. has ts k || any_has lists (take (i + 1) us) k) b o
next_with_list ts us lists i b o l h =
    next_alike (λ k. (has ts k || any_has lists (take i us) k) || has (row lists (get_or us i 0)) k) (λ k. has ts k || any_has lists (take (i + 1) us) k) b o
    (λ k. or_joined (has ts k) (any_has lists (take i us) k) (has (row lists (get_or us i 0)) k)
    ∙ ap (λ c. has ts k || c) (sym (list_any_more (λ u. has (row lists u) k) us i 0 l))) h

-- with all of them
pub next_with_all : (r : Rows) (a i b : ℕ) (us : List ℕ) (o : Option ℕ) → us ≡ row r.uses a → length us ≤ i
    → IsNext (λ k. has (row r.targets a) k || any_has r.lists (take i us) k) b o → IsNext (leads r a) b o
unfolding leads
next_with_all r a i b us o e l h =
    next_alike (λ k. has (row r.targets a) k || any_has r.lists (take i us) k) (λ k. has (row r.targets a) k || any_has r.lists (row r.uses a) k) b o
    (λ k. ap (λ xs. has (row r.targets a) k || any_has r.lists xs k) (take_all i us l ∙ e)) h
