-- A search for a pair among pairs that rise.
use Rattle.std.proofs.Common.{◌≡◌, ℕ, ◌+◌, ◌<◌, List, [], length, get_or, inl, inr, sym, ap, subst, ◌∙◌, arith}
use Rattle.std.specs.Prelude.{Some, map, slice_get, Contains}
use Rattle.std.specs.List.{HoldsAt}
use Rattle.std.specs.List.Sorted.{IsNonDecreasingBy, IsPartitionPoint, IsSortedBy}
use Rattle.std.specs.Ordering.{is_lt, ordering_index, ordering_reverse}
use Rattle.std.specs.declared.cmp.Ordering.TheVariants.{Less, Equal, Greater}
use Rattle.std.proofs.lemmas.Bool.{cases_lt}
use Rattle.std.proofs.lemmas.Cmp.{nat_list_cmp_total}
use Rattle.std.proofs.lemmas.List.{get_or-map, length-map}
use Rattle.std.proofs.lemmas.List.Sorted.{searchable_from_sorted}
use Rattle.std.proofs.lemmas.Option.{slice_get-get_or}
use Rattle.fcg_grammar.specs.Table.{order, Rises}
use Rattle.fcg_grammar.proofs.TableLaws.{itself, one_row}
use Rattle.fcg_join.specs.Internal.Signatures.{Pair, row_of_pair, pair_order}
use Rattle.fcg_join.proofs.SearchNames.{rises_at}
use Rattle.fcg_join.proofs.SignatureKeys.{pair_order_is}

pub found_pair : (pairs : List Pair) (p : Pair) (k : ℕ) → k < length pairs → HoldsAt (λ q. pair_order q p ≡ Equal) pairs k → slice_get (map row_of_pair pairs) k ≡ Some (row_of_pair p)
found_pair pairs p k l h =
    let e = one_row (row_of_pair (get_or pairs k p)) (row_of_pair p) (pair_order_is (get_or pairs k p) p ∙ h p) in
    let long = length-map pairs row_of_pair in
    slice_get-get_or (map row_of_pair pairs) k [] (omega arith) ∙ ap (λ (row : List ℕ). Some row) (get_or-map row_of_pair pairs k p [] l ∙ e)

module _ (pairs : List Pair) (p : Pair) (rise : Rises (map row_of_pair pairs)) where
  sorted : IsSortedBy (λ (a b : Pair). is_lt (order (row_of_pair a) (row_of_pair b))) pairs
  sorted k d z l =
      let long = length-map pairs row_of_pair in
      let a = get_or-map row_of_pair pairs k d [] (omega arith) in
      let b = get_or-map row_of_pair pairs (k + 1) d [] (omega arith) in
      let less : order (row_of_pair (get_or pairs k d)) (row_of_pair (get_or pairs (k + 1) d)) ≡ Less =
      ap (λ (x : List ℕ). order x (row_of_pair (get_or pairs (k + 1) d))) (sym a) ∙ ap (order (get_or (map row_of_pair pairs) k [])) (sym b) ∙ rises_at (map row_of_pair pairs) k (k + 1) rise (omega arith) (omega arith) in
      ap is_lt (nat_list_cmp_total.antisymm (row_of_pair (get_or pairs (k + 1) d)) (row_of_pair (get_or pairs k d)) ∙ ap ordering_reverse less)

  rising : IsNonDecreasingBy (λ (q : Pair). ordering_index (pair_order q p)) pairs
  rising = subst (λ (f : Pair → ℕ). IsNonDecreasingBy f pairs) (λ i q. ordering_index (pair_order_is q p i)) (searchable_from_sorted nat_list_cmp_total row_of_pair pairs (row_of_pair p) sorted)

  pub no_pair_at : (i : ℕ) → (IsNonDecreasingBy (λ (q : Pair). ordering_index (pair_order q p)) pairs → IsPartitionPoint (λ (q : Pair). pair_order q p ≡ Less) (λ (q : Pair). pair_order q p ≡ Greater) pairs i)
      → Contains (map row_of_pair pairs) (row_of_pair p) → ⊥
  no_pair_at i h c =
      let long = length-map pairs row_of_pair in
      let l : c.0 < length pairs = (let a = c.1 in omega arith) in
      let row : row_of_pair (get_or pairs c.0 p) ≡ row_of_pair p = sym (get_or-map row_of_pair pairs c.0 p (row_of_pair p) l) ∙ c.2 in
      let same : pair_order (get_or pairs c.0 p) p ≡ Equal = sym (pair_order_is (get_or pairs c.0 p) p) ∙ ap (λ (x : List ℕ). order x (row_of_pair p)) row ∙ itself (row_of_pair p) in
      let point = h rising in
      elim (cases_lt c.0 i) [
        | inl a ↦ (let e = point.0 c.0 p (omega arith) a in absurd cc)
        | inr b ↦ (let e = point.1 c.0 p b l in absurd cc)
      ]

pub no_pair : (pairs : List Pair) (p : Pair) (i : ℕ) → Rises (map row_of_pair pairs)
    → (IsNonDecreasingBy (λ (q : Pair). ordering_index (pair_order q p)) pairs → IsPartitionPoint (λ (q : Pair). pair_order q p ≡ Less) (λ (q : Pair). pair_order q p ≡ Greater) pairs i)
    → Contains (map row_of_pair pairs) (row_of_pair p) → ⊥
no_pair pairs p i rise = no_pair_at pairs p rise i
