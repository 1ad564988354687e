-- Links that lead to nodes, row by row.
use Rattle.std.proofs.Common.{◌≡◌, ℕ, ◌+◌, ◌<◌, ◌≤◌, List, [], length, All, get_or, sym, ap, subst, ◌∙◌, inl, inr, arith}
use Rattle.std.proofs.lemmas.Bool.{cases_eq, cases_lt}
use Rattle.std.proofs.lemmas.List.{get_or_past, get_or_default}
use Rattle.fcg_order.specs.Links.{row, HasLink, IsWithin}

-- one more row, all of which is below the count of nodes
pub within_more : (rows : List (List ℕ)) (n count : ℕ) (r : List ℕ) → r ≡ row rows n → count ≡ length rows → All (λ z. z < count) r
    → ((x y : ℕ) → x < n → HasLink rows x y → y < length rows) → (x y : ℕ) → x < n + 1 → HasLink rows x y → y < length rows
within_more rows n count r e q a h x y l k = elim (cases_eq x n) [
  | inl s ↦ (let f : row rows x ≡ r = ap (row rows) s ∙ sym e in
      let b : k.0 < length r = subst (λ xs. k.0 < length xs) f k.1 in
      let c : get_or r k.0 y ≡ y = subst (λ xs. get_or xs k.0 y ≡ y) f k.2 in
      let d : get_or r k.0 y < count = a k.0 y b in
      omega arith)
  | inr ne ↦ h x y (omega arith) k
]

-- nothing stands past the last row
pub within_all : (rows : List (List ℕ)) (n : ℕ) → length rows ≤ n → ((x y : ℕ) → x < n → HasLink rows x y → y < length rows) → IsWithin rows
within_all rows n l h = record {
  each = λ x y k. (elim (cases_lt x n) [
    | inl b ↦ h x y b k
    | inr b ↦ absurd (let z : row rows x ≡ [] = get_or_past rows x [] (omega arith) in let c : k.0 < length (row rows x) = k.1 in let d : length (row rows x) ≡ 0 = ap (λ xs. length xs) z in omega arith)
  ]);
}

-- each row of links that lead to nodes is below their count
pub row_all : (rows : List (List ℕ)) (n count : ℕ) (r : List ℕ) → r ≡ row rows n → count ≡ length rows → IsWithin rows → All (λ z. z < count) r
row_all rows n count r e q w k d l =
    let b : k < length (row rows n) = subst (λ xs. k < length xs) e l in
    let c : get_or r k d ≡ get_or (row rows n) k d = ap (λ xs. get_or xs k d) e in
    let f = w.each n (get_or (row rows n) k d) (k, b, get_or_default (row rows n) k (get_or (row rows n) k d) d b) in
    omega arith
