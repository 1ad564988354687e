-- The places of edges among all edges.
use Rattle.std.proofs.Common.{◌≡◌, ℕ, zero, suc, ◌+◌, ◌-◌, ◌<◌, ◌≤◌, List, length, get_or, take, leb, refl, sym, ap, subst, ◌∙◌, arith, inl, inr}
use Rattle.std.specs.Prelude.{true, false, Option, Some, None, option_map, filter, map, sum_by, slice_get}
use Rattle.std.specs.List.{range_with_len}
use Rattle.std.specs.List.Sorted.{IsNonDecreasingBy, IsPartitionPoint}
use Rattle.std.proofs.lemmas.Bool.{cases_lt, leb-true, leb-false}
use Rattle.std.proofs.lemmas.List.{length-map, get_or_default}
use Rattle.std.proofs.lemmas.List.Concat.{length-flat_map}
use Rattle.std.proofs.lemmas.List.Sorted.{IsNonDecreasingBy-from_all_adjacent}
use Rattle.std.proofs.lemmas.List.Sums.{sum_by_push}
use Rattle.std.proofs.lemmas.Option.{slice_get-map, slice_get_within}
use Rattle.fcg_order.specs.Links.{row}
use Rattle.fcg_analysis.proofs.General.Places.{before_place, get_flat_map, stands_in}
use Rattle.fcg_analysis.proofs.General.Ranges.{length-range}
use Rattle.fcg_edges.specs.Rows.{Rows, leads, edges_of}
use Rattle.fcg_edges.specs.Internal.Tables.{AreRows, size_of}
use Rattle.fcg_edges.specs.Internal.Counts.{count_to, edges_before, IsNext}
use Rattle.fcg_edges.proofs.NumberCounts.{range_more, take_range, get_range, count_next, count_last, place_of_number, number_at_place}
use Rattle.fcg_edges.proofs.TargetCounts.{size_of_leads, leads_within}

-- the edges of a caller
abbrev row_edges : Rows → ℕ → List (ℕ × ℕ)
row_edges r a = map (λ b. (a, b)) (filter (leads r a) (range_with_len 0 r.count))

-- ---- how many edges callers have

row_edges_many : (r : Rows) (a : ℕ) → length (row_edges r a) ≡ count_to (leads r a) r.count
row_edges_many r a = length-map (filter (leads r a) (range_with_len 0 r.count)) (λ (b : ℕ). (a, b))

before_is : (r : Rows) (n a : ℕ) → a ≤ n → before_place (row_edges r) (range_with_len 0 n) a ≡ edges_before r a
unfolding edges_before
before_is r n a l =
    ap (λ (f : ℕ → ℕ). sum_by f (take a (range_with_len 0 n))) (λ i c. row_edges_many r c i)
    ∙ ap (sum_by (λ c. count_to (leads r c) r.count)) (take_range 0 n a l)

none_before : (r : Rows) → edges_before r 0 ≡ 0
unfolding edges_before
none_before r = refl

pub before_more : (r : Rows) (a : ℕ) → edges_before r (a + 1) ≡ edges_before r a + count_to (leads r a) r.count
unfolding edges_before
before_more r a = ap (sum_by (λ c. count_to (leads r c) r.count)) (range_more a) ∙ sum_by_push (λ c. count_to (leads r c) r.count) (range_with_len 0 a) a

pub edges_many : (r : Rows) → length (edges_of r) ≡ edges_before r (length r.targets)
unfolding edges_of edges_before
edges_many r =
    length-flat_map (row_edges r) (range_with_len 0 (length r.targets))
    ∙ ap (λ (f : ℕ → ℕ). sum_by f (range_with_len 0 (length r.targets))) (λ i c. row_edges_many r c i)

-- what is kept of it
pub firsts_are : (r : Rows) (firsts : List ℕ) → AreRows r firsts → (a : ℕ) → a ≤ length r.targets → get_or firsts a 0 ≡ edges_before r a
firsts_are r firsts w zero l = w.first ∙ sym (none_before r)
firsts_are r firsts w (suc a) l =
    let below : a < length r.targets = omega arith in
    let next : a + 1 ≡ suc a = omega arith in
    let size = size_of_leads r a w.lists (w.rows a below) in
    ap (λ k. get_or firsts k 0) (sym next) ∙ w.sums a below
    ∙ ap (λ n. n + size_of r.lists (row r.targets a) (row r.uses a)) (firsts_are r firsts w a (omega arith))
    ∙ ap (λ n. edges_before r a + n) (sym size) ∙ sym (before_more r a) ∙ ap (edges_before r) next

pub firsts_rise : (r : Rows) (firsts : List ℕ) → AreRows r firsts → IsNonDecreasingBy (λ k. k) firsts
firsts_rise r firsts w = IsNonDecreasingBy-from_all_adjacent (λ k. k) firsts (λ k d l. (
    let long = w.firsts_long in
    let s = w.sums k (omega arith) in
    let a = get_or_default firsts k d 0 (omega arith) in
    let b = get_or_default firsts (k + 1) d 0 (omega arith) in
    omega arith))

-- ---- the place of an edge

range_place : (n p e : ℕ) → slice_get (range_with_len 0 n) p ≡ Some e → (p < n) × (e ≡ p)
range_place n p e h =
    elim (cases_lt p n) [
      | inl l ↦ (let s : Some e ≡ Some (0 + p) = sym h ∙ get_range 0 n p l in let q : e ≡ 0 + p = cc in (l, omega arith))
      | inr l ↦ absurd (let m = slice_get_within (range_with_len 0 n) p e h in let k = length-range 0 n in omega arith)
    ]

pub place_of_edge : (r : Rows) (a b : ℕ) → a < length r.targets → b < r.count → leads r a b ≡ true → slice_get (edges_of r) (edges_before r a + count_to (leads r a) b) ≡ Some (a, b)
unfolding edges_of
place_of_edge r a b l m t =
    let e : 0 + a ≡ a = omega arith in
    let there : slice_get (range_with_len 0 (length r.targets)) a ≡ Some a = get_range 0 (length r.targets) a l ∙ ap Some e in
    let here : slice_get (row_edges r a) (count_to (leads r a) b) ≡ Some (a, b) =
    slice_get-map (λ (b : ℕ). (a, b)) (filter (leads r a) (range_with_len 0 r.count)) (count_to (leads r a) b) ∙ ap (option_map (λ (b : ℕ). (a, b))) (place_of_number (leads r a) r.count b m t) in
    ap (λ n. slice_get (edges_of r) (n + count_to (leads r a) b)) (sym (before_is r (length r.targets) a (omega arith)))
    ∙ get_flat_map (row_edges r) (range_with_len 0 (length r.targets)) a (count_to (leads r a) b) a (a, b) there here

-- an edge, and its place
pub record IsEdgeAt (r : Rows) (k a b : ℕ) : Type 0 where
  pub caller : a < length r.targets
  pub node : b < r.count
  pub led : leads r a b ≡ true
  pub place : k ≡ edges_before r a + count_to (leads r a) b

-- the number of which an element of a map of pairs is made
in_pairs : (x : ℕ) (o : Option ℕ) (a b : ℕ) → option_map {U = ℕ × ℕ} (λ (y : ℕ). (x, y)) o ≡ Some (a, b) → (x ≡ a) × (o ≡ Some b)
in_pairs x None a b h = absurd (cc)
in_pairs x (Some y) a b h =
    let pair : ℕ × ℕ = (x, y) in
    let same : ◌≡◌ {A = ℕ × ℕ} pair (a, b) = cc in
    (ap (λ (q : ℕ × ℕ). q.0) same, ap (λ (q : ℕ × ℕ). Some q.1) same)

pub edge_at : (r : Rows) (k a b : ℕ) → slice_get (edges_of r) k ≡ Some (a, b) → IsEdgeAt r k a b
unfolding edges_of
edge_at r k a b h =
    let n = length r.targets in
    let s = stands_in (row_edges r) (range_with_len 0 n) k (a, b) h in
    let p = range_place n s.place s.element s.there in
    let q = in_pairs s.element (slice_get (filter (leads r s.element) (range_with_len 0 r.count)) s.within) a b
    (sym (slice_get-map (λ (b : ℕ). (s.element, b)) (filter (leads r s.element) (range_with_len 0 r.count)) s.within) ∙ s.here) in
    let here : slice_get (filter (leads r a) (range_with_len 0 r.count)) s.within ≡ Some b =
    subst (λ x. slice_get (filter (leads r x) (range_with_len 0 r.count)) s.within ≡ Some b) q.0 q.1 in
    let w = number_at_place (leads r a) r.count s.within b here in
    let same : s.place ≡ a = sym p.1 ∙ q.0 in
    record {
      caller = subst (λ x. x < n) same p.0;
      node = w.0;
      led = w.1;
      place = s.sum ∙ ap (λ x. before_place (row_edges r) (range_with_len 0 n) x + s.within) same
          ∙ ap (λ x. x + s.within) (before_is r n a (let l = subst (λ x. x < n) same p.0 in omega arith))
          ∙ ap (λ x. edges_before r a + x) w.2;
    }

-- ---- the edge after an edge

-- it is the next of the caller
pub next_in_row : (r : Rows) (firsts : List ℕ) → AreRows r firsts → (k a b t : ℕ) → slice_get (edges_of r) k ≡ Some (a, b) → IsNext (leads r a) b (Some t) → Some (a, t) ≡ slice_get (edges_of r) (k + 1)
next_in_row r firsts w k a b t h n =
    let e = edge_at r k a b h in
    let here = place_of_edge r a t e.caller (leads_within r a t w.lists (w.rows a e.caller) n.1) n.1 in
    let counted : count_to (leads r a) t ≡ count_to (leads r a) b + 1 = count_next (leads r a) b t e.led n in
    let place : edges_before r a + count_to (leads r a) t ≡ k + 1 = (let p = e.place in omega arith) in
    sym here ∙ ap (slice_get (edges_of r)) place

-- or the first of the callers after it
pub next_after_row : (r : Rows) (k a b : ℕ) → slice_get (edges_of r) k ≡ Some (a, b) → IsNext (leads r a) b None → edges_before r (a + 1) ≡ k + 1
next_after_row r k a b h n =
    let e = edge_at r k a b h in
    let p = e.place in
    let counted : count_to (leads r a) r.count ≡ count_to (leads r a) b + 1 = count_last (leads r a) b r.count e.node e.led n in
    let more = before_more r a in
    omega arith

-- ---- the caller of a place

pub record IsCallerOf (r : Rows) (k a : ℕ) : Type 0 where
  pub there : a < length r.targets
  pub from' : edges_before r a ≤ k
  pub until : k < edges_before r (a + 1)

module _ (r : Rows) (firsts : List ℕ) (w : AreRows r firsts) (k i : ℕ) (within : i ≤ length firsts) (below : k < length (edges_of r)) (h : IsPartitionPoint (λ f. leb f k ≡ true) (λ f. leb f k ≡ false) firsts i) where
  pub after_first : 1 ≤ i
  after_first =
      elim (cases_lt 0 i) [
        | inl l ↦ l
        | inr l ↦ absurd (let long = w.firsts_long in let e = w.first in let a = leb-false (get_or firsts 0 0) k (h.1 0 0 l (omega arith)) in omega arith)
      ]

  pub caller_of_place : IsCallerOf r k (i - 1)
  caller_of_place =
      let one = after_first in
      let long = w.firsts_long in
      let total = edges_many r in
      let last = firsts_are r firsts w (length r.targets) (omega arith) in
      let inside : i - 1 < length r.targets =
      elim (cases_lt (i - 1) (length r.targets)) [
        | inl l ↦ l
        | inr l ↦ absurd (let a = leb-true (get_or firsts (length r.targets) 0) k (h.0 (length r.targets) 0 (omega arith) (omega arith)) in omega arith)
      ] in
      let here = leb-true (get_or firsts (i - 1) 0) k (h.0 (i - 1) 0 (omega arith) (omega arith)) in
      let next : k < get_or firsts i 0 = leb-false (get_or firsts i 0) k (h.1 i 0 (omega arith) (omega arith)) in
      let a = firsts_are r firsts w (i - 1) (omega arith) in
      let b = firsts_are r firsts w (i - 1 + 1) (omega arith) in
      let same : i ≡ i - 1 + 1 = omega arith in
      let c : get_or firsts i 0 ≡ get_or firsts (i - 1 + 1) 0 = ap (λ n. get_or firsts n 0) same in
      record { there = inside; from' = omega arith; until = omega arith }
