-- The rows of those that reach a target, and how far the farthest is.
use Rattle.std.proofs.Common.{◌≡◌, ℕ, zero, suc, ◌+◌, ◌<◌, ◌≤◌, List, [], ◌∷◌, length, refl, sym, ap, subst, ◌∙◌, inl, inr, arith}
use Rattle.std.specs.Prelude.{◌↔◌, Bool, true, false, cond, ◌&&◌, ◌||◌, ◌==◌, filter, filter_map, map, Option, Some, None, option_map, is_some, Contains}
use Rattle.std.specs.List.{range_with_len, cons_option}
use Rattle.std.proofs.lemmas.Bool.{or_cases, or_left, or_right}
use Rattle.std.proofs.lemmas.Bool.Decides.{Decides-eqb}
use Rattle.fcg_analysis.specs.Reach.{Edges, dist, next, leads, is_next_of, Row, row, rows}
use Rattle.fcg_analysis.proofs.General.Members.{IsIn, IsIn-from_Contains, Contains-from_IsIn, filter_in, in_filter, find_in, length-filter_all, same_or_more_in}
use Rattle.fcg_analysis.proofs.General.Ranges.{in_range, range_in, length-range}
use Rattle.fcg_analysis.proofs.NextLaws.{begins_below, walk_first, next_found}
use Rattle.fcg_analysis.proofs.ReachLaws.{dist_is_least}

-- ---- what a filter that maps keeps

in_filter_map : {X Y : Type 0} (f : X → Option Y) (xs : List X) (y : Y) → IsIn y (filter_map f xs) → (x : X) × IsIn x xs × (f x ≡ Some y)
in_filter_map f [] y h = absurd h
in_filter_map {X} {Y} f (x ∷ xs) y h = at (f x) refl h (in_filter_map f xs y)
  where
    at : (o : Option Y) → f x ≡ o → IsIn y (cons_option o (filter_map f xs)) → (IsIn y (filter_map f xs) → (z : X) × IsIn z xs × (f z ≡ Some y)) → (z : X) × IsIn z (x ∷ xs) × (f z ≡ Some y)
    at None e k r = let s = r k in (s.0, inr s.1, s.2)
    at (Some z) e (inl k) r = (x, inl refl, e ∙ ap Some k)
    at (Some z) e (inr k) r = let s = r k in (s.0, inr s.1, s.2)

filter_map_in : {X Y : Type 0} (f : X → Option Y) (xs : List X) (x : X) (y : Y) → IsIn x xs → f x ≡ Some y → IsIn y (filter_map f xs)
filter_map_in f [] x y h e = absurd h
filter_map_in {X} {Y} f (z ∷ zs) x y (inl i) e = subst (λ o. IsIn y (cons_option o (filter_map f zs))) (sym (ap f i ∙ e)) (inl refl)
filter_map_in {X} {Y} f (z ∷ zs) x y (inr i) e = at (f z) (filter_map_in f zs x y i e)
  where
    at : (o : Option Y) → IsIn y (filter_map f zs) → IsIn y (cons_option o (filter_map f zs))
    at None h = h
    at (Some w) h = inr h

module _ (es : Edges) (count target : ℕ) where
  made : ℕ → ℕ → Row
  made m d = record { node = m; steps = d; next = next es count target m }

  -- ---- the rows

  nodes_from : (ms : List ℕ) → map (λ r. r.node) (filter_map (row es count target) ms) ≡ filter (λ m. is_some (dist es count target m)) ms
  unfolding made
  nodes_from [] = refl
  nodes_from (m ∷ ms) = at (dist es count target m) (nodes_from ms)
    where
      at : (o : Option ℕ) → map (λ r. r.node) (filter_map (row es count target) ms) ≡ filter (λ m. is_some (dist es count target m)) ms
          → map (λ r. r.node) (cons_option (option_map (λ d. record { node = m; steps = d; next = next es count target m }) o) (filter_map (row es count target) ms))
          ≡ cond (is_some o) (m ∷ filter (λ m. is_some (dist es count target m)) ms) (filter (λ m. is_some (dist es count target m)) ms)
      at None e = e
      at (Some d) e = ap (λ ns. m ∷ ns) e

  pub row_nodes : map (λ r. r.node) (rows es count target) ≡ filter (λ m. is_some (dist es count target m)) (range_with_len 0 count)
  unfolding rows
  row_nodes = nodes_from (range_with_len 0 count)

  row_of : (m : ℕ) (r : Row) → row es count target m ≡ Some r → (m ≡ r.node) × (dist es count target m ≡ Some r.steps) × (r.next ≡ next es count target m)
  unfolding made
  row_of m r h = at (dist es count target m) h
    where
      at : (o : Option ℕ) → option_map (λ d. record { node = m; steps = d; next = next es count target m }) o ≡ Some r → (m ≡ r.node) × (o ≡ Some r.steps) × (r.next ≡ next es count target m)
      at None k = absurd (cc)
      at (Some d) k =
          let same : made m d ≡ r = some_of (made m d) r k in
          (ap (λ v. v.node) same, ap (λ v. Some v.steps) same, sym (ap (λ v. v.next) same))
        where
          some_of : (x y : Row) → Some x ≡ Some y → x ≡ y
          some_of x y e = cc

  pub row_is : (r : Row) → Contains (rows es count target) r ↔ ((r.node < count) × (dist es count target r.node ≡ Some r.steps) × (r.next ≡ next es count target r.node))
  unfolding rows
  row_is r = (forth, back)
    where
      forth : Contains (rows es count target) r → (r.node < count) × (dist es count target r.node ≡ Some r.steps) × (r.next ≡ next es count target r.node)
      forth c =
          let m = in_filter_map (row es count target) (range_with_len 0 count) r (IsIn-from_Contains _ r c) in
          let k = row_of m.0 r m.2 in
          let l : (0 ≤ m.0) × (m.0 < 0 + count) = in_range 0 count m.0 m.1 in
          let small : m.0 < count = omega arith in
          (subst (λ n. n < count) k.0 small, sym (ap (dist es count target) k.0) ∙ k.1, k.2 ∙ ap (next es count target) k.0)

      back : (r.node < count) × (dist es count target r.node ≡ Some r.steps) × (r.next ≡ next es count target r.node) → Contains (rows es count target) r
      back h =
          let l = h.0 in
          Contains-from_IsIn _ r (filter_map_in (row es count target) (range_with_len 0 count) r.node r (range_in 0 count r.node (omega arith) (omega arith))
          (ap (option_map (λ d. record { node = r.node; steps = d; next = next es count target r.node })) h.1
          ∙ ap (λ v. Some (record { node = r.node; steps = r.steps; next = v })) (sym h.2)))

  pub next_has_row : (u : ℕ) (r : Row) → Contains (rows es count target) r → r.next ≡ Some u → Contains (map (λ q. q.node) (rows es count target)) u
  unfolding next
  next_has_row u r c e =
      let k = (row_is r).0 c in
      let n : next es count target r.node ≡ Some u = sym k.2 ∙ e in
      let i = (find_in (λ u. leads es r.node u && is_next_of (dist es count target u) (dist es count target r.node)) (range_with_len 0 count) u n).0 in
      let d = next_found es count target r.node u n in
      Contains-from_IsIn _ u (subst (IsIn u) (sym row_nodes) (filter_in (λ m. is_some (dist es count target m)) (range_with_len 0 count) u i (ap is_some d.here)))

  -- ---- no distance is as great as the count

  is_at : ℕ → Option ℕ → Bool
  is_at k None = false
  is_at k (Some d) = d == k

  within : ℕ → ℕ → Bool
  within zero m = is_at zero (dist es count target m)
  within (suc k) m = within k m || is_at (suc k) (dist es count target m)

  at_is : (k : ℕ) (o : Option ℕ) → is_at k o ≡ true → o ≡ Some k
  unfolding is_at
  at_is k None h = absurd (cc)
  at_is k (Some d) h = ap Some ((Decides-eqb d k).0 h)

  is_there : (k : ℕ) (o : Option ℕ) → o ≡ Some k → is_at k o ≡ true
  unfolding is_at
  is_there k o e = ap (is_at k) e ∙ (Decides-eqb k k).1 refl

  within_is : (k m : ℕ) → within k m ≡ true → (d : ℕ) × (d ≤ k) × (dist es count target m ≡ Some d)
  unfolding within
  within_is zero m h = (0, omega arith, at_is zero (dist es count target m) h)
  within_is (suc k) m h =
      elim (or_cases (within k m) (is_at (suc k) (dist es count target m)) h) [
        | inl e ↦ (let r = within_is k m e in (r.0, omega (arith, r.1), r.2))
        | inr e ↦ (suc k, omega arith, at_is (suc k) (dist es count target m) e)
      ]

  is_within : (k m : ℕ) → dist es count target m ≡ Some k → within k m ≡ true
  unfolding within
  is_within zero m e = is_there zero (dist es count target m) e
  is_within (suc k) m e = or_right (within k m) (is_at (suc k) (dist es count target m)) (is_there (suc k) (dist es count target m) e)

  more_within : (k m : ℕ) → within k m ≡ true → within (suc k) m ≡ true
  unfolding within
  more_within k m h = or_left (within k m) (is_at (suc k) (dist es count target m)) h

  some_in : (xs : List ℕ) (x : ℕ) → IsIn x xs → 0 < length xs
  some_in [] x h = absurd h
  some_in (y ∷ ys) x h = omega arith

  many : (k m : ℕ) → target < count → dist es count target m ≡ Some k → k < length (filter (within k) (range_with_len 0 count))
  many zero m t e = some_in _ m (filter_in (within zero) (range_with_len 0 count) m (here m t e) (is_within zero m e))
    where
      here : (m : ℕ) → target < count → dist es count target m ≡ Some 0 → IsIn m (range_with_len 0 count)
      here m t e = let l = begins_below es count target 0 m t ((dist_is_least es count target m).found 0 e).walks in range_in 0 count m (omega arith) (omega arith)
  many (suc k) m t e =
      let w = ((dist_is_least es count target m).found (suc k) e).walks in
      let l = begins_below es count target (suc k) m t w in
      let f = walk_first es count target m k t e w in
      let r : k < length (filter (within k) (range_with_len 0 count)) = many k f.node t f.near in
      let i : IsIn m (range_with_len 0 count) = range_in 0 count m (omega arith) (omega arith) in
      elim (same_or_more_in (within (suc k)) (within k) (range_with_len 0 count) (λ x h. more_within k x)) [
        | inl q ↦ absurd (
            let j = in_filter (within k) (range_with_len 0 count) m (subst (IsIn m) q (filter_in (within (suc k)) (range_with_len 0 count) m i (is_within (suc k) m e))) in
            let d = within_is k m j.1 in
            let z = d.1 in
            let same : suc k ≡ d.0 = some_of (suc k) d.0 (sym e ∙ d.2) in
            omega arith)
        | inr q ↦ omega arith
      ]
    where
      some_of : (x y : ℕ) → Some x ≡ Some y → x ≡ y
      some_of x y e = cc

  pub dist_small : (m d : ℕ) → target < count → dist es count target m ≡ Some d → d < count
  dist_small m d t e =
      let a : d < length (filter (within d) (range_with_len 0 count)) = many d m t e in
      let b : length (filter (within d) (range_with_len 0 count)) ≤ length (range_with_len 0 count) = length-filter_all (within d) (range_with_len 0 count) in
      omega (arith, length-range 0 count)
