-- The nodes of a type stand in a row, after those of the types before it.
use Rattle.std.proofs.Common.{◌≡◌, ℕ, zero, suc, ◌+◌, ◌-◌, ◌<◌, ◌≤◌, List, [], ◌∷◌, length, take, sym, ap, subst, ◌∙◌, arith}
use Rattle.std.specs.Prelude.{Option, Some, None, option_map, map, sum_by, slice_get, Contains}
use Rattle.std.proofs.lemmas.List.{length-map}
use Rattle.std.proofs.lemmas.List.Concat.{length-flat_map}
use Rattle.std.proofs.lemmas.List.Sums.{sum_by_more}
use Rattle.std.proofs.lemmas.Option.{slice_get-map, slice_get_within, get_or_from_slice_get}
use Rattle.fcg_views.specs.declared.view.Method.{Method}
use Rattle.fcg_analysis.specs.Declarations.{Placed}
use Rattle.fcg_analysis.specs.Nodes.{Node, nodes, nodes_from}
use Rattle.fcg_analysis.specs.Laws.Methods.{methods_of, method_total, first_node, node_at, IsMethodAt}
use Rattle.fcg_analysis.proofs.General.Places.{place_of_member, some_at, same_at, before_place, get_flat_map, stands_in}
use Rattle.fcg_analysis.proofs.NodeMembers.{length-nodes_from}

-- ---- nodes by their numbers

get_node : (n : ℕ) (ps : List (Placed × Method)) (k : ℕ) (p : Placed × Method) → slice_get ps k ≡ Some p → slice_get (nodes_from n ps) k ≡ Some (node_at (n + k) p.0 p.1)
get_node n [] k p h = absurd (cc)
get_node n (q ∷ ps) zero p h =
    let same : q ≡ p = cc in
    let e : n ≡ n + 0 = omega arith in
    λ i. Some (node_at (e i) (same i).0 (same i).1)
get_node n (q ∷ ps) (suc k) p h =
    let e : n + 1 + k ≡ n + suc k = omega arith in
    get_node (n + 1) ps k p h ∙ ap (λ j. Some (node_at j p.0 p.1)) e

node_got : (n : ℕ) (ps : List (Placed × Method)) (k : ℕ) (m : Node) → slice_get (nodes_from n ps) k ≡ Some m → (m.number ≡ n + k) × (slice_get ps k ≡ Some (m.owner, m.method))
node_got n [] k m h = absurd (cc)
node_got n (q ∷ ps) zero m h =
    let same : node_at n q.0 q.1 ≡ m = cc in
    let e : n ≡ m.number = ap (λ v. v.number) same in
    (omega arith, λ i. Some ((same i).owner, (same i).method))
node_got n (q ∷ ps) (suc k) m h =
    let r : (m.number ≡ n + 1 + k) × (slice_get ps k ≡ Some (m.owner, m.method)) = node_got (n + 1) ps k m h in
    (omega (arith, r.0), r.1)

-- the methods of a type, with the type
abbrev pairs : Placed → List (Placed × Method)
pairs t = map (λ m. (t, m)) t.view.methods

pairs_total : (types : List Placed) → sum_by (λ t. length (pairs t)) types ≡ method_total types
pairs_total types = λ i. sum_by (λ t. length-map {B = Placed × Method} t.view.methods (λ m. (t, m)) i) types

pub count_is : (types : List Placed) → length (nodes types) ≡ method_total types
unfolding nodes
count_is types = length-nodes_from 0 (methods_of types) ∙ length-flat_map pairs types ∙ pairs_total types

pub method_at : (types : List Placed) (x k : ℕ) (t : Placed) (m : Method) → slice_get types x ≡ Some t → slice_get t.view.methods k ≡ Some m
    → slice_get (nodes types) (first_node types x + k) ≡ Some (node_at (first_node types x + k) t m)
unfolding nodes
method_at types x k t m h i =
    let pair : slice_get (pairs t) k ≡ Some (t, m) = slice_get-map (λ m. (t, m)) t.view.methods k ∙ ap (option_map (λ m. (t, m))) i in
    let there : slice_get (methods_of types) (before_place pairs types x + k) ≡ Some (t, m) = get_flat_map pairs types x k t (t, m) h pair in
    let first : before_place pairs types x ≡ first_node types x = pairs_total (take x types) in
    get_node 0 (methods_of types) (first_node types x + k) (t, m) (ap (λ j. slice_get (methods_of types) (j + k)) (sym first) ∙ there)
    ∙ (let e : 0 + (first_node types x + k) ≡ first_node types x + k = omega arith in ap (λ j. Some (node_at j t m)) e)

pub of_method_at : (types : List Placed) (n : ℕ) (m : Node) → slice_get (nodes types) n ≡ Some m → IsMethodAt types n m
unfolding nodes
of_method_at types n m h =
    let g = node_got 0 (methods_of types) n m h in
    let s = stands_in pairs types n (m.owner, m.method) g.1 in
    let first : before_place pairs types s.place ≡ first_node types s.place = pairs_total (take s.place types) in
    let i = in_pairs s.element s.within (m.owner, m.method) s.here in
    let sum : n ≡ first_node types s.place + s.within = s.sum ∙ ap (λ j. j + s.within) first in
    let small : s.within < length m.owner.view.methods = slice_get_within m.owner.view.methods s.within m.method (subst (λ u. slice_get u.view.methods s.within ≡ Some m.method) i.0 i.1) in
    let number : m.number ≡ 0 + n = g.0 in
    let less : n - first_node types s.place ≡ s.within = omega arith in
    record {
      number = omega arith;
      place = s.place;
      owner = s.there ∙ ap Some i.0;
      from' = omega arith;
      until = omega arith;
      method = ap (slice_get m.owner.view.methods) less ∙ subst (λ u. slice_get u.view.methods s.within ≡ Some m.method) i.0 i.1;
    }
  where
    in_pairs : (t : Placed) (k : ℕ) (p : Placed × Method) → slice_get (pairs t) k ≡ Some p → (t ≡ p.0) × (slice_get t.view.methods k ≡ Some p.1)
    in_pairs t k p e = at (slice_get t.view.methods k) (sym (slice_get-map (λ m. (t, m)) t.view.methods k) ∙ e)
      where
        at : (o : Option Method) → option_map (λ m. (t, m)) o ≡ Some p → (t ≡ p.0) × (o ≡ Some p.1)
        at None f = absurd (cc)
        at (Some v) f = let same : (t, v) ≡ p = cc in (ap (λ q. q.0) same, ap (λ q. Some q.1) same)

-- a node in the row of a type is that type's
pub in_row : (types : List Placed) (x n : ℕ) (t : Placed) (m : Node) → slice_get types x ≡ Some t → first_node types x ≤ n → n < first_node types x + length t.view.methods
    → slice_get (nodes types) n ≡ Some m → (m.owner ≡ t) × (slice_get t.view.methods (n - first_node types x) ≡ Some m.method)
in_row types x n t m h l u g =
    let k = n - first_node types x in
    let sum : first_node types x + k ≡ n = omega arith in
    let small : k < length t.view.methods = omega arith in
    let there = some_at t.view.methods k small in
    let e : node_at (first_node types x + k) t there.0 ≡ m = same_at (nodes types) n (node_at (first_node types x + k) t there.0) m (subst (λ j. slice_get (nodes types) j ≡ Some (node_at (first_node types x + k) t there.0)) sum (method_at types x k t there.0 h there.1)) g in
    (sym (ap (λ v. v.owner) e), there.1 ∙ ap (λ v. Some v.method) e)

pub first_goes_on : (types : List Placed) (x : ℕ) (t : Placed) → slice_get types x ≡ Some t → first_node types (x + 1) ≡ first_node types x + length t.view.methods
first_goes_on types x t h =
    sum_by_more (λ t. length t.view.methods) types x t (slice_get_within types x t h)
    ∙ ap (λ u. first_node types x + length u.view.methods) (get_or_from_slice_get types x t t h)

pub number_is_place : (types : List Placed) (m : Node) → Contains (nodes types) m → slice_get (nodes types) m.number ≡ Some m
number_is_place types m c =
    let p = place_of_member (nodes types) m c in
    let n : m.number ≡ p.0 = (of_method_at types p.0 m p.1).number in
    ap (slice_get (nodes types)) n ∙ p.1
