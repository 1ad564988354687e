-- Sorting and searching make and use the table.
use Rattle.std.proofs.Common.{◌≡◌, ℕ, suc, ◌+◌, ◌≤◌, true, false, cond, ltb, ◌⊎◌, inl, inr, List, [], ◌∷◌, length, get_or, refl, sym, ap, subst, ◌∙◌, arith}
use Rattle.std.specs.Prelude.{nat_eq, Result, Ok, Err}
use Rattle.std.specs.Result.{result_unwrap_or}
use Rattle.std.specs.List.{dedup}
use Rattle.std.specs.List.Sorted.{IsPermutation, IsSorted, IsBinarySearchResult, IsSearchInRange}
use Rattle.std.specs.List.Retain.{IsFiltered, DiffersFromLast}
use Rattle.std.specs.Cmp.Lexicographic.{pointwise, same_text, texts_ties, nat_list_eq_equiv}
use Rattle.std.specs.Ordering.{is_lt, ordering_reverse}
use Rattle.std.specs.declared.cmp.Ordering.TheVariants.{Less, Greater}
use Rattle.std.proofs.lemmas.Bool.{ltb-true, ltb-false}
use Rattle.std.proofs.lemmas.Cmp.{nat_list_cmp_total}
use Rattle.std.proofs.lemmas.List.Filters.{dedup_is}
use Rattle.std.proofs.lemmas.List.Kept.{IsStrictlySortedBy-dedup, Contains-dedup, Contains-from_dedup}
use Rattle.std.proofs.lemmas.List.Sorted.{Contains-permutation, IsPermutation-sym, searchable_from_sorted}
use Rattle.std.proofs.lemmas.Map.Keys.{Less-from_sorted}
use Rattle.fcg_grammar.specs.Table.{order, Rises, IsTable, table, place}
use Rattle.fcg_grammar.proofs.Among.{Among, place_of}
use Rattle.fcg_grammar.proofs.TableLaws.{is_table, place_at, at_place, one_row, itself, not_below_itself}

pub made_table : (xs sorted rows : List (List ℕ)) → IsPermutation xs sorted → IsSorted order sorted → IsFiltered (DiffersFromLast (pointwise nat_eq)) [] sorted rows → rows ≡ table xs
made_table xs sorted rows p s f =
    let e : rows ≡ dedup (pointwise nat_eq) sorted = dedup_is (pointwise nat_eq) sorted rows f in
    let t : IsTable xs (dedup (pointwise nat_eq) sorted) = record {
      rises = IsStrictlySortedBy-dedup nat_list_cmp_total texts_ties sorted s;
      each = λ x c. Contains-dedup nat_list_eq_equiv (λ a b h. same_text a b (sym h)) sorted x (Contains-permutation xs sorted x p c);
      used = λ x c. Contains-permutation sorted xs x (IsPermutation-sym xs sorted p) (Contains-from_dedup (pointwise nat_eq) sorted x c);
    } in
    e ∙ is_table xs (dedup (pointwise nat_eq) sorted) t

-- a member stands at its place, and what is no member has the place past the end
place_cases : (rows : List (List ℕ)) (x : List ℕ) → Among x rows ⊎ (place rows x ≡ length rows)
unfolding place
place_cases [] x = inr refl
place_cases (y ∷ ys) x =
    elim (pointwise nat_eq y x) as (λ b. pointwise nat_eq y x ≡ b → Among x (y ∷ ys) ⊎ (cond b 0 (suc (place ys x)) ≡ length (y ∷ ys))) [
      | true ↦ λ t. inl (inl (same_text y x (sym t)))
      | false ↦ λ t. later (place_cases ys x)
    ] refl
  where
    later : Among x ys ⊎ (place ys x ≡ length ys) → Among x (y ∷ ys) ⊎ (suc (place ys x) ≡ length (y ∷ ys))
    later (inl h) = inl (inr h)
    later (inr e) = inr (ap suc e)

pub place_within : (rows : List (List ℕ)) (x : List ℕ) → place rows x ≤ length rows
place_within rows x = by_case (place_cases rows x)
  where
    by_case : Among x rows ⊎ (place rows x ≡ length rows) → place rows x ≤ length rows
    by_case (inl h) = let lt = (at_place rows x [] h).0 in omega arith
    by_case (inr e) = omega arith

abbrev pub found : ℕ → Result ℕ ℕ → ℕ
found past (Ok i) = i
found past (Err i) = past

-- a search in the table gives the place
pub found_place : (rows : List (List ℕ)) (x : List ℕ) (r : Result ℕ ℕ) → Rises rows → IsSearchInRange r (length rows) → IsBinarySearchResult (λ y. order y x) rows r → found (length rows) r ≡ place rows x
found_place rows x (Ok i) rises below is =
    let same : get_or rows i [] ≡ x = one_row (get_or rows i []) x (is []) in
    sym (place_at rows i [] rises below) ∙ ap (place rows) same
found_place rows x (Err i) rises below is = by_case (place_cases rows x)
  where
    sorted_of : IsSorted order rows
    sorted_of k d lo lt =
        let e = Less-from_sorted order rows k (k + 1) d rises (omega arith) lt in
        ap is_lt (nat_list_cmp_total.antisymm (get_or rows (k + 1) d) (get_or rows k d) ∙ ap ordering_reverse e)

    absent : Among x rows → ⊥
    absent h =
        let p = place_of x [] rows h in
        let split = is (searchable_from_sorted nat_list_cmp_total (λ y. y) rows x sorted_of) in
        elim (ltb p.0 i) as (λ b. ltb p.0 i ≡ b → ⊥) [
          | true ↦ λ t. (let e = split.0 p.0 [] (omega arith) (ltb-true p.0 i t) in not_below_itself x (subst (λ (z : List ℕ). order z x ≡ Less) p.2 e))
          | false ↦ λ t. (let e = split.1 p.0 [] (ltb-false p.0 i t) p.1 in let f : order x x ≡ Greater = subst (λ (z : List ℕ). order z x ≡ Greater) p.2 e in let g = itself x in cc)
        ] refl

    by_case : Among x rows ⊎ (place rows x ≡ length rows) → length rows ≡ place rows x
    by_case (inl h) = absurd (absent h)
    by_case (inr e) = sym e

pub unwrapped : (past : ℕ) (r : Result ℕ ℕ) → result_unwrap_or r past ≡ found past r
unwrapped past (Ok i) = refl
unwrapped past (Err i) = refl
