-- The list of edges against the relation, and its order.
use Rattle.std.proofs.Common.{◌≡◌, ℕ, ◌<◌, List, [], ◌∷◌, length, refl, sym, ap, subst, ◌∙◌, arith}
use Rattle.std.specs.Prelude.{◌↔◌, Bool, true, false, cond, filter, map, flat_map, Contains}
use Rattle.std.specs.List.{AllByRecursion}
use Rattle.std.specs.List.Sorted.{IsStrictlySortedBy}
use Rattle.std.specs.declared.cmp.Ordering.TheVariants.{Less}
use Rattle.std.specs.Ordering.{nat_cmp, ordering_then}
use Rattle.std.specs.Cmp.{IsTotalOrder, on_total, then_total}
use Rattle.std.proofs.lemmas.Bool.{lt-ltb}
use Rattle.std.proofs.lemmas.Cmp.{nat_cmp_total, tied_itself}
use Rattle.fcg_analysis.specs.Declarations.{Placed}
use Rattle.fcg_analysis.specs.Nodes.{Node, nodes}
use Rattle.fcg_analysis.specs.Edges.{edge, edges}
use Rattle.fcg_analysis.specs.Laws.Statements.{IsEdge, edge_cmp}
use Rattle.fcg_analysis.proofs.General.Members.{IsIn, Contains-from_IsIn, IsIn-from_Contains, filter_in, flat_map_in, in_filter, in_flat_map, in_map, map_in}
use Rattle.fcg_analysis.proofs.General.Sorted.{all_from_in, in_all, one_sorted, sorted_joined}
use Rattle.fcg_analysis.proofs.NodeLaws.{Rising, nodes_rise, number_small}

pub edge_from_list : (types : List Placed) (e : ℕ × ℕ) → Contains (edges types) e → IsEdge types e
unfolding edges
edge_from_list types e c =
    let r = in_flat_map (λ a. map (λ b. (a.number, b.number)) (filter (λ b. edge types a b) (nodes types))) (nodes types) e (IsIn-from_Contains _ e c) in
    let s = in_map (λ b. (r.0.number, b.number)) (filter (λ b. edge types r.0 b) (nodes types)) e r.2 in
    let t = in_filter (λ b. edge types r.0 b) (nodes types) s.0 s.1 in
    record { caller = r.0; target = s.0; caller_in = Contains-from_IsIn _ r.0 r.1; target_in = Contains-from_IsIn _ s.0 t.0; numbers = s.2; leads = t.1 }

pub list_from_edge : (types : List Placed) (e : ℕ × ℕ) → IsEdge types e → Contains (edges types) e
unfolding edges
list_from_edge types e h =
    subst (λ p. Contains (edges types) p) h.numbers
    (Contains-from_IsIn _ _
    (flat_map_in (λ a. map (λ b. (a.number, b.number)) (filter (λ b. edge types a b) (nodes types))) (nodes types) h.caller (h.caller.number, h.target.number) (IsIn-from_Contains _ h.caller h.caller_in)
    (map_in (λ b. (h.caller.number, b.number)) (filter (λ b. edge types h.caller b) (nodes types)) h.target
    (filter_in (λ b. edge types h.caller b) (nodes types) h.target (IsIn-from_Contains _ h.target h.target_in) h.leads))))

-- ---- the list is sorted

less : (x y : ℕ) → x < y → nat_cmp x y ≡ Less
less x y l = rw (lt-ltb x y l) refl

less_first : (e f : ℕ × ℕ) → e.0 < f.0 → edge_cmp e f ≡ Less
less_first e f l = ap (λ o. ordering_then o (nat_cmp e.1 f.1)) (less e.0 f.0 l)

less_second : (e f : ℕ × ℕ) → e.0 ≡ f.0 → e.1 < f.1 → edge_cmp e f ≡ Less
less_second e f q l =
    ap (λ o. ordering_then o (nat_cmp e.1 f.1)) (ap (λ k. nat_cmp e.0 k) (sym q) ∙ tied_itself nat_cmp_total e.0) ∙ less e.1 f.1 l

-- the edges of one caller
row_sorted : (k : ℕ) (p : Node → Bool) (ns : List Node) → Rising ns → IsStrictlySortedBy edge_cmp (map (λ b. (k, b.number)) (filter p ns))
unfolding IsStrictlySortedBy Rising
row_sorted k p [] r = tt
row_sorted k p (n ∷ ns) r = at (p n) (row_sorted k p ns r.1)
  where
    later : AllByRecursion (λ e. edge_cmp (k, n.number) e ≡ Less) (map (λ b. (k, b.number)) (filter p ns))
    later = all_from_in (λ e. edge_cmp (k, n.number) e ≡ Less) (map (λ b. (k, b.number)) (filter p ns)) (λ e h.
        let b = in_map (λ b. (k, b.number)) (filter p ns) e h in
        let i = (in_filter p ns b.0 b.1).0 in
        subst (λ f. edge_cmp (k, n.number) f ≡ Less) b.2 (less_second (k, n.number) (k, b.0.number) refl (in_all (λ v. n.number < v.number) ns b.0 r.0 i)))

    at : (b : Bool) → IsStrictlySortedBy edge_cmp (map (λ b. (k, b.number)) (filter p ns)) → IsStrictlySortedBy edge_cmp (map (λ b. (k, b.number)) (cond b (n ∷ filter p ns) (filter p ns)))
    at true s = (later, s)
    at false s = s

abbrev row_of : List Placed → List Node → Node → List (ℕ × ℕ)
row_of types all a = map (λ b. (a.number, b.number)) (filter (λ b. edge types a b) all)

caller_of : (types : List Placed) (all : List Node) (a : Node) (e : ℕ × ℕ) → IsIn e (row_of types all a) → a.number ≡ e.0
caller_of types all a e h = let b = in_map (λ b. (a.number, b.number)) (filter (λ b. edge types a b) all) e h in ap (λ f. f.0) b.2

rows_sorted : (types : List Placed) (all callers : List Node) → Rising all → Rising callers → IsStrictlySortedBy edge_cmp (flat_map (row_of types all) callers)
unfolding IsStrictlySortedBy Rising
rows_sorted types all [] r s = tt
rows_sorted types all (a ∷ others) r s =
    sorted_joined edge_cmp (row_of types all a) (flat_map (row_of types all) others) (row_sorted a.number (λ b. edge types a b) all r) (rows_sorted types all others r s.1)
    (λ e f h k.
    let b = in_flat_map (row_of types all) others f k in
    let p : a.number ≡ e.0 = caller_of types all a e h in
    let q : b.0.number ≡ f.0 = caller_of types all b.0 f b.2 in
    let l : a.number < b.0.number = in_all (λ v. a.number < v.number) others b.0 s.0 b.1 in
    less_first e f (omega arith))

pub edges_sorted : (types : List Placed) → IsStrictlySortedBy edge_cmp (edges types)
unfolding edges
edges_sorted types = rows_sorted types (nodes types) (nodes types) (nodes_rise types) (nodes_rise types)

-- ---- the ends

pub ends_are_nodes : (types : List Placed) (e : ℕ × ℕ) → Contains (edges types) e → (e.0 < length (nodes types)) × (e.1 < length (nodes types))
ends_are_nodes types e c =
    let h = edge_from_list types e c in
    let a : h.caller.number ≡ e.0 = ap (λ f. f.0) h.numbers in
    let b : h.target.number ≡ e.1 = ap (λ f. f.1) h.numbers in
    (subst (λ k. k < length (nodes types)) a (number_small types h.caller h.caller_in), subst (λ k. k < length (nodes types)) b (number_small types h.target h.target_in))

-- ---- a list that rises and has the same pairs is the list of edges

edge_order : IsTotalOrder edge_cmp
edge_order = then_total (on_total (λ e. e.0) nat_cmp_total) (on_total (λ e. e.1) nat_cmp_total)

pub edges_from_pairs : (types : List Placed) (es : List (ℕ × ℕ)) → IsStrictlySortedBy edge_cmp es → ((e : ℕ × ℕ) → Contains es e ↔ IsEdge types e) → es ≡ edges types
edges_from_pairs types es s h =
    one_sorted edge_cmp edge_order es (edges types) s (edges_sorted types)
    (λ e i. IsIn-from_Contains (edges types) e (list_from_edge types e ((h e).0 (Contains-from_IsIn es e i))))
    (λ e i. IsIn-from_Contains es e ((h e).1 (edge_from_list types e (Contains-from_IsIn (edges types) e i))))
