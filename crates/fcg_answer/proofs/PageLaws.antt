-- Pages row by row.
use Rattle.std.proofs.Common.{◌≡◌, ◌⊎◌, inl, inr, ℕ, zero, suc, ◌+◌, ◌-◌, ◌<◌, ◌≤◌, List, [], ◌∷◌, ◌++◌, length, take, drop, map, get_or, refl, sym, ap, ◌∙◌, arith}
use Rattle.std.specs.Prelude.{Option, Some, None, slice_get, min}
use Rattle.std.specs.List.{Contains}
use Rattle.std.specs.Option.{option_map}
use Rattle.std.proofs.lemmas.List.{take_more, length-drop, get_or-drop}
use Rattle.std.proofs.lemmas.Option.{get_or_from_slice_get, slice_get_within, slice_get_cases, slice_get-map}
use Rattle.fcg_views.specs.declared.uri.MethodUri.{MethodUri}
use Rattle.fcg_analysis.specs.Declarations.{Placed}
use Rattle.fcg_analysis.specs.Nodes.{Node, nodes, identity}
use Rattle.fcg_analysis.specs.Edges.{edges}
use Rattle.fcg_analysis.proofs.EdgeLaws.{ends_are_nodes}
use Rattle.fcg_answer.specs.Answer.{page}

take_all : {X : Type 0} (n : ℕ) (ys : List X) → length ys ≤ n → take n ys ≡ ys
take_all zero [] few = refl
take_all (suc n) [] few = refl
take_all zero (y ∷ ys) few = absurd (omega (arith, few))
take_all (suc n) (y ∷ ys) few = ap (λ (zs : List _). y ∷ zs) (take_all n ys (omega (arith, few)))

module _ {X : Type 0} (xs : List X) where
  there : (from i : ℕ) (x : X) → slice_get xs (from + i) ≡ Some x → i < length (drop from xs)
  there from i x is = (let low = slice_get_within xs (from + i) x is in let l = length-drop from xs in omega (arith, low, l))

  -- a row more
  pub page_more : (from i : ℕ) (x : X) → slice_get xs (from + i) ≡ Some x → page from (i + 1) xs ≡ page from i xs ++ x ∷ []
  page_more from i x is =
      take_more (drop from xs) i x (there from i x is)
      ∙ ap (λ (y : X). take i (drop from xs) ++ y ∷ []) (get_or-drop from xs i x ∙ get_or_from_slice_get xs (from + i) x x is)

  -- no row is left
  pub page_ends : (from i count : ℕ) → slice_get xs (from + i) ≡ None → i ≤ count → page from i xs ≡ page from count xs
  page_ends from i count is few = by (slice_get_cases xs (from + i)).1
    where
      by : ((x : X) × (from + i < length xs) × (slice_get xs (from + i) ≡ Some x) × (get_or xs (from + i) x ≡ x)) ⊎ ((length xs ≤ from + i) × (slice_get xs (from + i) ≡ None)) → page from i xs ≡ page from count xs
      by (inl (x, low, some, at)) = absurd cc
      by (inr (past, none)) =
          let l = length-drop from xs in
          take_all i (drop from xs) (omega (arith, past, l)) ∙ sym (take_all count (drop from xs) (omega (arith, past, l, few)))

  -- a page ends with the rows
  pub page_within : (from count : ℕ) → page from (min (length xs) (from + count) - from) xs ≡ page from count xs
  page_within from count = by (cases (length xs) (from + count))
    where
      cases : (n m : ℕ) → (n ≤ m) ⊎ (m ≤ n)
      cases n m = search (arith)

      by : (length xs ≤ from + count) ⊎ (from + count ≤ length xs) → page from (min (length xs) (from + count) - from) xs ≡ page from count xs
      by (inl few) =
          let l = length-drop from xs in
          take_all (min (length xs) (from + count) - from) (drop from xs) (omega (arith, few, l)) ∙ sym (take_all count (drop from xs) (omega (arith, few, l)))
      by (inr many) = (let n : min (length xs) (from + count) - from ≡ count = omega (arith, many) in ap (λ (k : ℕ). page from k xs) n)

-- ---- the rows of nodes
pub node_row : (ns : List Node) (k : ℕ) (uri : MethodUri) → k < length ns → ((n : Node) → slice_get ns k ≡ Some n → uri ≡ identity n) → slice_get (map identity ns) k ≡ Some uri
node_row ns k uri low is = by (slice_get_cases ns k).1
  where
    by : ((n : Node) × (k < length ns) × (slice_get ns k ≡ Some n) × (get_or ns k n ≡ n)) ⊎ ((length ns ≤ k) × (slice_get ns k ≡ None)) → slice_get (map identity ns) k ≡ Some uri
    by (inl (n, l, some, at)) = slice_get-map identity ns k ∙ ap (option_map identity) some ∙ ap (λ (u : MethodUri). some_uri u) (sym (is n some))
      where
        some_uri : MethodUri → Option MethodUri
        some_uri u = Some u
    by (inr (past, none)) = absurd (omega (arith, low, past))

-- ---- the callers of edges are nodes
got_contains : {X : Type 0} (xs : List X) (k : ℕ) (x : X) → slice_get xs k ≡ Some x → Contains xs x
got_contains xs k x is = (k, slice_get_within xs k x is, get_or_from_slice_get xs k x x is)

pub caller_is_node : (types : List Placed) (k a b : ℕ) → slice_get (edges types) k ≡ Some (a, b) → a < length (nodes types)
caller_is_node types k a b is = (ends_are_nodes types (a, b) (got_contains (edges types) k (a, b) is)).0

pub uri_is : (uri : MethodUri) (n : Node) → uri.coordinate ≡ (identity n).coordinate → uri.class ≡ (identity n).class → uri.name ≡ (identity n).name → uri.desc ≡ (identity n).desc → uri ≡ identity n
uri_is uri n a b c d = made_of uri.coordinate (identity n).coordinate uri.class (identity n).class uri.name (identity n).name uri.desc (identity n).desc a b c d
  where
    made : List ℕ → List ℕ → List ℕ → List ℕ → MethodUri
    made c k m d = record { coordinate = c; class = k; name = m; desc = d }

    made_of : (c1 c2 k1 k2 m1 m2 d1 d2 : List ℕ) → c1 ≡ c2 → k1 ≡ k2 → m1 ≡ m2 → d1 ≡ d2 → made c1 k1 m1 d1 ≡ made c2 k2 m2 d2
    made_of c1 c2 k1 k2 m1 m2 d1 d2 p q r s = rw (p, q, r, s) refl
