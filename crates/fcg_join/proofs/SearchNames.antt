-- A search by halves in names that rise.
use Rattle.std.proofs.Common.{◌≡◌, ℕ, zero, suc, ◌+◌, ◌<◌, ◌≤◌, List, [], ◌∷◌, length, get_or, ap, ◌∙◌, arith}
use Rattle.std.specs.Prelude.{Contains, ◌⊎◌}
use Rattle.std.specs.declared.cmp.Ordering.TheVariants.{Less, Equal, Greater}
use Rattle.std.proofs.lemmas.Cmp.{nat_list_cmp_total}
use Rattle.std.proofs.lemmas.Map.Keys.{sorted_tail}
use Rattle.std.proofs.lemmas.Bool.{cases_eq, cases_lt}
use Rattle.std.proofs.lemmas.List.{get_or_default}
use Rattle.std.proofs.Common.{inl, inr}
use Rattle.fcg_grammar.specs.Table.{order, Rises}
use Rattle.fcg_grammar.proofs.Among.{among_at}
use Rattle.fcg_grammar.proofs.TableLaws.{above_first, itself}
use Rattle.fcg_join.specs.Internal.Searched.{IsSearched}

pub rises_at : (xs : List (List ℕ)) (j k : ℕ) → Rises xs → j < k → k < length xs → order (get_or xs j []) (get_or xs k []) ≡ Less
rises_at [] j k r a b = absurd (omega arith)
rises_at (x ∷ xs) zero zero r a b = absurd (omega arith)
rises_at (x ∷ xs) zero (suc k) r a b = above_first (get_or xs k []) x xs r (among_at xs k [] (omega arith))
rises_at (x ∷ xs) (suc j) zero r a b = absurd (omega arith)
rises_at (x ∷ xs) (suc j) (suc k) r a b = rises_at xs j k (sorted_tail order x xs r) (omega arith) (omega arith)

turned : (x y : List ℕ) → order x y ≡ Greater → order y x ≡ Less
turned x y e = let a = nat_list_cmp_total.antisymm y x in rw e at a

turned_back : (x y : List ℕ) → order x y ≡ Less → order y x ≡ Greater
turned_back x y e = let a = nat_list_cmp_total.antisymm y x in rw e at a

module _ (names : List (List ℕ)) (name : List ℕ) (r : Rises names) (low high middle : ℕ) (s : IsSearched names name low high) (a : low ≤ middle) (b : middle < high) where
  pub searched_less : order (get_or names middle []) name ≡ Less → IsSearched names name (middle + 1) high
  searched_less e = record {
    within = s.within;
    ordered = omega arith;
    less = λ k l. (elim (cases_eq k middle) [
      | inl q ↦ ap (λ i. order (get_or names i []) name) q ∙ e
      | inr ne ↦ nat_list_cmp_total.trans (get_or names k []) (get_or names middle []) name (rises_at names k middle r (omega arith) (let w = s.within in omega arith)) e
    ]);
    greater = s.greater;
  }

  pub searched_greater : order (get_or names middle []) name ≡ Greater → IsSearched names name low middle
  searched_greater e = record {
    within = (let w = s.within in omega arith);
    ordered = a;
    less = s.less;
    greater = λ k l m. (elim (cases_eq k middle) [
      | inl q ↦ ap (λ i. order (get_or names i []) name) q ∙ e
      | inr ne ↦ turned_back name (get_or names k []) (nat_list_cmp_total.trans name (get_or names middle []) (get_or names k []) (turned (get_or names middle []) name e) (rises_at names middle k r (omega arith) m))
    ]);
  }

pub searched_none : (names : List (List ℕ)) (name : List ℕ) (low high : ℕ) → high ≤ low → IsSearched names name low high → Contains names name → ⊥
searched_none names name low high l s c = at (cases_lt c.0 low)
  where
    same : get_or names c.0 [] ≡ name
    same = get_or_default names c.0 [] name c.1 ∙ c.2

    equal : order (get_or names c.0 []) name ≡ Equal
    equal = ap (λ n. order n name) same ∙ itself name

    at : (c.0 < low) ⊎ (low ≤ c.0) → ⊥
    at (inl a) = (let e = s.less c.0 a in let f = equal in absurd cc)
    at (inr b) = (let e = s.greater c.0 (omega arith) c.1 in let f = equal in absurd cc)
