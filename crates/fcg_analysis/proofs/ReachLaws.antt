-- The distances against the walks.
use Rattle.std.proofs.Common.{◌≡◌, ℕ, zero, suc, ◌+◌, ◌<◌, ◌≤◌, length, refl, subst, inl, inr, arith}
use Rattle.std.specs.Prelude.{Bool, true, ◌||◌, ◌==◌, Contains}
use Rattle.std.specs.List.{list_any, range_with_len}
use Rattle.std.proofs.lemmas.Bool.{or_cases}
use Rattle.std.proofs.lemmas.Bool.Decides.{Decides-eqb}
use Rattle.fcg_analysis.specs.Walks.{Walk, step, onward as more, led_within}
use Rattle.fcg_analysis.specs.Reach.{Edges, leads, from_which, dist, has_walk, WalkOf, here, onward}
use Rattle.fcg_analysis.specs.Laws.Statements.{DistIsLeast}
use Rattle.fcg_analysis.proofs.General.Members.{Contains-from_IsIn, IsIn, IsIn-from_Contains, any_in, filter_in, find_none, in_any, in_filter}
use Rattle.fcg_analysis.proofs.General.Ranges.{find_least, in_range, length-range, range_in}
use Rattle.fcg_analysis.proofs.General.Walking.{led_from_walk}

-- ---- walks of so many edges

module _ (es : Edges) (count target : ℕ) where
  pub from_which_in : (k m : ℕ) → WalkOf es count target m k → IsIn m (from_which k es count target)
  from_which_in k target here = inl refl
  from_which_in (suc k) m (onward {u = u} l t w) =
      filter_in (λ m. list_any (leads es m) (from_which k es count target)) (range_with_len 0 count) m (range_in 0 count m (omega arith) (omega arith))
      (any_in (leads es m) (from_which k es count target) u (from_which_in k u w) t)

  pub in_from_which : (k m : ℕ) → IsIn m (from_which k es count target) → WalkOf es count target m k
  in_from_which zero m (inl e) = subst (λ m. WalkOf es count target m 0) e here
  in_from_which zero m (inr h) = absurd h
  in_from_which (suc k) m h =
      let r = in_filter (λ m. list_any (leads es m) (from_which k es count target)) (range_with_len 0 count) m h in
      let s : (0 ≤ m) × (m < 0 + count) = in_range 0 count m r.0 in
      let u = in_any (leads es m) (from_which k es count target) r.1 in
      onward (omega arith) u.2 (in_from_which k u.0 u.1)

  pub has_walk_true : (m k : ℕ) → WalkOf es count target m k → has_walk es count target m k ≡ true
  has_walk_true m k w = any_in (λ n. n == m) (from_which k es count target) m (from_which_in k m w) ((Decides-eqb m m).1 refl)

  pub true_has_walk : (m k : ℕ) → has_walk es count target m k ≡ true → WalkOf es count target m k
  true_has_walk m k h =
      let r = in_any (λ n. n == m) (from_which k es count target) h in
      subst (λ m. WalkOf es count target m k) ((Decides-eqb r.0 m).0 r.2) (in_from_which k r.0 r.1)

  -- backward over the nodes
  back : ℕ → ℕ → Bool
  back u m = leads es m u

  backward : (m k : ℕ) → WalkOf es count target m (suc k) → Walk back (range_with_len 0 count) target m
  unfolding back
  backward m k w = go k m w
    where
      node : (m : ℕ) → m < count → Contains (range_with_len 0 count) m
      node m l = Contains-from_IsIn _ m (range_in 0 count m (omega arith) (omega arith))

      go : (k m : ℕ) → WalkOf es count target m (suc k) → Walk back (range_with_len 0 count) target m
      go zero m (onward l t here) = step (node m l) t
      go (suc k) m (onward {u = u} l t w) = more (go k u w) (node m l) t

  -- as few edges as there are nodes suffice
  shortened : (n m : ℕ) → IsIn m (led_within back (range_with_len 0 count) n target) → (k : ℕ) × (k ≤ n) × WalkOf es count target m k
  unfolding back
  shortened zero m h = absurd h
  shortened (suc n) m h =
      let r = in_filter (λ y. back target y || list_any (λ z. back z y) (led_within back (range_with_len 0 count) n target)) (range_with_len 0 count) m h in
      let s : (0 ≤ m) × (m < 0 + count) = in_range 0 count m r.0 in
      elim (or_cases (leads es m target) (list_any (λ z. leads es m z) (led_within back (range_with_len 0 count) n target)) r.1) [
        | inl t ↦ (1, omega arith, onward (omega arith) t here)
        | inr t ↦ (
            let u = in_any (λ z. leads es m z) (led_within back (range_with_len 0 count) n target) t in
            let w = shortened n u.0 u.1 in
            (suc w.0, omega (arith, w.1), onward (omega arith) u.2 w.2))
      ]

  few : (m k : ℕ) → WalkOf es count target m k → (j : ℕ) × (j ≤ count) × WalkOf es count target m j
  few m zero w = (0, omega arith, w)
  few m (suc k) w =
      let r = shortened (length (range_with_len 0 count)) m (IsIn-from_Contains _ m (led_from_walk back (range_with_len 0 count) target m (backward m k w))) in
      (r.0, omega (arith, r.1, length-range 0 count), r.2)

  pub dist_is_least : (m : ℕ) → DistIsLeast es count target m
  unfolding dist
  dist_is_least m = record {
    found = λ d e. (let r = find_least (has_walk es count target m) 0 (suc count) d e in
        record { walks = true_has_walk m d r.0; least = λ k w. r.1 k (omega arith) (has_walk_true m k w) });
    none = λ e k w. (let r = few m k w in
        find_none (has_walk es count target m) (range_with_len 0 (suc count)) r.0 e (range_in 0 (suc count) r.0 (omega arith) (omega (arith, r.1))) (has_walk_true m r.0 r.2));
  }
