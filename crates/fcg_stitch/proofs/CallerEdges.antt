-- The edges of the first callers, among the edges of all.
use Rattle.std.proofs.Common.{◌≡◌, ℕ, zero, suc, ◌<◌, ◌≤◌, ◌+◌, ◌-◌, List, [], ◌∷◌, ◌++◌, length, length-append, refl, sym, ap, subst, ◌∙◌, inl, inr, arith}
use Rattle.std.specs.Prelude.{◌↔◌, ◌==◌, Bool, true, Option, Some, Contains, slice_get, filter, map, flat_map}
use Rattle.std.specs.List.{range_with_len}
use Rattle.std.proofs.lemmas.Bool.Decides.{Decides-eqb}
use Rattle.std.proofs.lemmas.List.Concat.{flat_map-append}
use Rattle.fcg_partial.specs.Parts.{PartShown}
use Rattle.fcg_analysis.specs.Declarations.{Placed}
use Rattle.fcg_analysis.specs.Nodes.{Node, nodes}
use Rattle.fcg_analysis.specs.Edges.{edges}
use Rattle.fcg_analysis.specs.Laws.Tables.{edges_in}
use Rattle.fcg_analysis.proofs.General.Members.{IsIn, IsIn-from_Contains, Contains-from_IsIn, any_in, in_any}
use Rattle.fcg_analysis.proofs.General.Ranges.{in_range}
use Rattle.fcg_analysis.proofs.NodePlaces.{number_is_place}
use Rattle.fcg_join.specs.Parts.{types_of, nodes_of}
use Rattle.fcg_edges.specs.Rows.{Rows, has, leads, edges_of}
use Rattle.fcg_stitch.specs.Targets.{caller_targets}
use Rattle.fcg_stitch.specs.declared.status.SiteStatus.{SiteStatus}
use Rattle.fcg_stitch.specs.Internal.Rows.{leads_to, targets_of_node}
use Rattle.fcg_stitch.specs.Internal.Tables.{AreOfNodes}
use Rattle.fcg_stitch.proofs.TargetLaws.{table_of_callers}

-- ---- lists

flat_map_alike : {X Y : Type 0} (f g : X → List Y) (xs : List X) → ((x : X) → IsIn x xs → f x ≡ g x) → flat_map f xs ≡ flat_map g xs
flat_map_alike f g [] h = refl
flat_map_alike f g (x ∷ xs) h =
    ap (λ ys. ys ++ flat_map f xs) (h x (inl refl)) ∙ ap (λ ys. g x ++ ys) (flat_map_alike f g xs (λ y i. h y (inr i)))

range_joined : (a k m : ℕ) → range_with_len a (k + m) ≡ range_with_len a k ++ range_with_len (a + k) m
range_joined a zero m = let e : zero + m ≡ m = omega arith in let f : a ≡ a + zero = omega arith in ap (range_with_len a) e ∙ ap (λ n. range_with_len n m) f
range_joined a (suc k) m =
    let e : suc k + m ≡ suc (k + m) = omega arith in
    let f : a + 1 + k ≡ a + suc k = omega arith in
    ap (range_with_len a) e ∙ ap (λ ks. a ∷ ks) (range_joined (a + 1) k m ∙ ap (λ n. range_with_len (a + 1) k ++ range_with_len n m) f)

fewer : {Y : Type 0} (f : ℕ → List Y) (k n : ℕ) → k ≤ n → length (flat_map f (range_with_len 0 k)) ≤ length (flat_map f (range_with_len 0 n))
fewer f k n l =
    let s : k + (n - k) ≡ n = omega arith in
    let e : length (flat_map f (range_with_len 0 n)) ≡ length (flat_map f (range_with_len 0 k)) + length (flat_map f (range_with_len (0 + k) (n - k))) =
    ap (λ m. length (flat_map f (range_with_len 0 m))) (sym s)
    ∙ ap (λ ks. length (flat_map f ks)) (range_joined 0 k (n - k))
    ∙ ap length (flat_map-append f (range_with_len 0 k) (range_with_len (0 + k) (n - k)))
    ∙ length-append (flat_map f (range_with_len 0 k)) (flat_map f (range_with_len (0 + k) (n - k))) in
    omega arith

-- ---- where callers lead

pub leads_at : (types : List Placed) (a b : ℕ) (n : Node) → slice_get (nodes types) a ≡ Some n → leads_to types a b ≡ has (caller_targets types n) b
unfolding leads_to
leads_at types a b n e = ap (λ (o : Option Node). has (targets_of_node types o) b) e

has_member : (ks : List ℕ) (b : ℕ) → (has ks b ≡ true) ↔ Contains ks b
has_member ks b = (λ h. forth (in_any (λ x. x == b) ks h), λ c. any_in (λ x. x == b) ks b (IsIn-from_Contains ks b c) ((Decides-eqb b b).1 refl))
  where
    forth : (x : ℕ) × IsIn x ks × (x == b ≡ true) → Contains ks b
    forth w = subst (λ y. Contains ks y) ((Decides-eqb w.0 b).0 w.2) (Contains-from_IsIn ks w.0 w.1)

edges_by_targets : (types : List Placed) → edges_in (length (nodes types)) (leads_to types) ≡ edges types
edges_by_targets types = table_of_callers types (leads_to types) at
  where
    at : (a b : Node) → Contains (nodes types) a → Contains (nodes types) b → (leads_to types a.number b.number ≡ true) ↔ Contains (caller_targets types a) b.number
    at a b c d =
        let e = leads_at types a.number b.number a (number_is_place types a c) in
        let h = has_member (caller_targets types a) b.number in
        (λ t. h.0 (sym e ∙ t), λ m. e ∙ h.1 m)

-- ---- the edges of the first callers

-- of n nodes the edges of the caller a
abbrev edges_at : ℕ → (ℕ → ℕ → Bool) → ℕ → List (ℕ × ℕ)
edges_at n f a = map (λ b. (a, b)) (filter (f a) (range_with_len 0 n))

table_edges : (n : ℕ) (f : ℕ → ℕ → Bool) → edges_in n f ≡ flat_map (edges_at n f) (range_with_len 0 n)
unfolding edges_in
table_edges n f = refl

row_edges : (r : Rows) → edges_of r ≡ flat_map (edges_at r.count (leads r)) (range_with_len 0 (length r.targets))
unfolding edges_of
row_edges r = refl

pub no_edges : (r : Rows) → length r.targets ≡ 0 → length (edges_of r) ≡ 0
no_edges r e = ap length (row_edges r ∙ ap (λ n. flat_map (edges_at r.count (leads r)) (range_with_len 0 n)) e)

module _ (parts : List PartShown) (k : ℕ) (r : Rows) (ss : List SiteStatus) (fs : List ℕ) (h : AreOfNodes parts k r ss fs) where
  edges_of_first : edges_of r ≡ flat_map (edges_at (length (nodes_of parts)) (leads_to (types_of parts))) (range_with_len 0 k)
  edges_of_first =
      row_edges r
      ∙ ap (λ n. flat_map (edges_at n (leads r)) (range_with_len 0 (length r.targets))) h.count
      ∙ ap (λ n. flat_map (edges_at (length (nodes_of parts)) (leads r)) (range_with_len 0 n)) h.callers
      ∙ flat_map_alike (edges_at (length (nodes_of parts)) (leads r)) (edges_at (length (nodes_of parts)) (leads_to (types_of parts))) (range_with_len 0 k)
      (λ a i. ap (λ (p : ℕ → Bool). map (λ b. (a, b)) (filter p (range_with_len 0 (length (nodes_of parts))))) (same a (in_range 0 k a i).1))
    where
      same : (a : ℕ) → a < 0 + k → leads r a ≡ leads_to (types_of parts) a
      same a l = let m : a < k = omega arith in λ i b. h.leads a b m i

  pub no_more_edges : k ≤ length (nodes_of parts) → length (edges_of r) ≤ length (edges (types_of parts))
  no_more_edges l =
      let f : ℕ → List (ℕ × ℕ) = edges_at (length (nodes_of parts)) (leads_to (types_of parts)) in
      let few : length (flat_map f (range_with_len 0 k)) ≤ length (flat_map f (range_with_len 0 (length (nodes_of parts)))) = fewer f k (length (nodes_of parts)) l in
      let a : length (edges_of r) ≡ length (flat_map f (range_with_len 0 k)) = ap length edges_of_first in
      let b : length (edges (types_of parts)) ≡ length (flat_map f (range_with_len 0 (length (nodes_of parts)))) =
      ap length (sym (edges_by_targets (types_of parts)) ∙ table_edges (length (nodes_of parts)) (leads_to (types_of parts))) in
      omega arith

-- the rows of all nodes have all edges
pub all_edges : (parts : List PartShown) (r : Rows) (ss : List SiteStatus) (fs : List ℕ) → AreOfNodes parts (length (nodes_of parts)) r ss fs → edges_of r ≡ edges (types_of parts)
all_edges parts r ss fs h =
    edges_of_first parts (length (nodes_of parts)) r ss fs h
    ∙ sym (table_edges (length (nodes_of parts)) (leads_to (types_of parts)))
    ∙ edges_by_targets (types_of parts)
