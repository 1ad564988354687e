-- The marks say which numbers were used.
use Rattle.std.proofs.Common.{◌≡◌, ℕ, zero, suc, ◌+◌, ◌<◌, ◌≤◌, Bool, true, false, cond, ◌||◌, eqb, List, [], ◌∷◌, ◌++◌, length, get_or, set, drop, refl, sym, ap, subst, ◌∙◌, arith}
use Rattle.std.specs.Prelude.{Option, Some, None, ◌==◌}
use Rattle.std.specs.List.{list_any}
use Rattle.std.proofs.Math.ListN.{length-set}
use Rattle.std.proofs.Math.Dec.{eqb-zero-suc, eqb-suc-zero}
use Rattle.std.proofs.lemmas.Bool.Decides.{nat_tests}
use Rattle.std.proofs.lemmas.List.{drop_more}
use Rattle.std.proofs.Math.ListN.{drop_of_length-le}
use Rattle.fcg_partial.specs.Internal.UsedNumbers.{marked, first_unmarked}
use Rattle.fcg_partial.specs.Reading.{unused_from}

pub length_marked : (marks : List Bool) (ks : List ℕ) → length (marked marks ks) ≡ length marks
unfolding marked
length_marked marks [] = refl
length_marked marks (k ∷ ks) = length_marked (set marks k true) ks ∙ length-set marks k true

pub marked_append : (marks : List Bool) (ks js : List ℕ) → marked marks (ks ++ js) ≡ marked (marked marks ks) js
unfolding marked
marked_append marks [] js = refl
marked_append marks (k ∷ ks) js = marked_append (set marks k true) ks js

same_test : (k j : ℕ) → eqb k j ≡ eqb (suc k) (suc j)
same_test k j = grind (arith, nat_tests)

set_here : (marks : List Bool) (k j : ℕ) → j < length marks → get_or (set marks k true) j false ≡ (eqb k j || get_or marks j false)
set_here [] k j lt = absurd (omega arith)
set_here (m ∷ marks) zero zero lt = refl
set_here (m ∷ marks) zero (suc j) lt = rw (eqb-zero-suc j) refl
set_here (m ∷ marks) (suc k) zero lt = rw (eqb-suc-zero k) refl
set_here (m ∷ marks) (suc k) (suc j) lt = set_here marks k j (omega arith) ∙ ap (λ (b : Bool). b || get_or marks j false) (same_test k j)

or_swap : (a b c : Bool) → ((a || b) || c) ≡ (b || (a || c))
or_swap true true c = refl
or_swap true false c = refl
or_swap false b c = refl

or_none : (a : Bool) → (a || false) ≡ a
or_none true = refl
or_none false = refl

pub marked_is : (marks : List Bool) (ks : List ℕ) (j : ℕ) → j < length marks → get_or (marked marks ks) j false ≡ (get_or marks j false || list_any (λ u. u == j) ks)
unfolding marked
marked_is marks [] j lt = sym (or_none (get_or marks j false))
marked_is marks (k ∷ ks) j lt =
    let long : length (set marks k true) ≡ length marks = length-set marks k true in
    let rest = marked_is (set marks k true) ks j (omega (arith, long, lt)) in
    rest ∙ ap (λ (b : Bool). b || list_any (λ u. u == j) ks) (set_here marks k j lt) ∙ or_swap (eqb k j) (get_or marks j false) (list_any (λ u. u == j) ks)

-- so the first unmarked is the first unused
pub first_is_unused : (uses : List ℕ) (marks : List Bool) (k : ℕ) → ((j : ℕ) → j < length marks → get_or marks j false ≡ list_any (λ u. u == j + k) uses) → first_unmarked marks k ≡ unused_from uses (length marks) k
first_is_unused uses [] k each = refl
first_is_unused uses (m ∷ marks) k each =
    let here : m ≡ list_any (λ u. u == k) uses = at_first m (each zero (omega arith)) in
    let rest : first_unmarked marks (k + 1) ≡ unused_from uses (length marks) (k + 1) = first_is_unused uses marks (k + 1) (λ j lt. at_next j (each (suc j) (omega arith))) in
    rw (here, rest) refl
  where
    at_first : (b : Bool) → b ≡ list_any (λ u. u == 0 + k) uses → b ≡ list_any (λ u. u == k) uses
    at_first b e = let z : 0 + k ≡ k = omega arith in subst (λ (i : ℕ). b ≡ list_any (λ u. u == i) uses) z e

    at_next : (j : ℕ) → get_or marks j false ≡ list_any (λ u. u == suc j + k) uses → get_or marks j false ≡ list_any (λ u. u == j + (k + 1)) uses
    at_next j e = let z : suc j + k ≡ j + (k + 1) = omega arith in subst (λ (i : ℕ). get_or marks j false ≡ list_any (λ u. u == i) uses) z e

pub marks_go_on : (marks : List Bool) (i : ℕ) (b d : Bool) (total : Option ℕ) → i < length marks → get_or marks i d ≡ b → first_unmarked (drop i marks) i ≡ total → cond b (first_unmarked (drop (i + 1) marks) (i + 1)) (Some i) ≡ total
marks_go_on marks i b d total lt is so_far =
    let one : first_unmarked (drop i marks) i ≡ cond b (first_unmarked (drop (i + 1) marks) (i + 1)) (Some i) = rw (drop_more marks i d lt, is) refl in
    sym one ∙ so_far

pub marks_done : (marks : List Bool) (i : ℕ) (total : Option ℕ) → length marks ≤ i → first_unmarked (drop i marks) i ≡ total → total ≡ None
marks_done marks i total le so_far =
    let one : first_unmarked (drop i marks) i ≡ None = rw (drop_of_length-le marks le) refl in
    sym so_far ∙ one
