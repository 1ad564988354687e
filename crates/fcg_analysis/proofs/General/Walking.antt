-- Walks, and the list that computes where they lead.
use Rattle.std.proofs.Common.{◌≡◌, ℕ, zero, suc, ◌≤◌, List, [], ◌∷◌, length, refl, sym, ap, subst, ◌∙◌, inl, inr, arith}
use Rattle.std.specs.Prelude.{Bool, true, false, ◌&&◌, ◌||◌, ◌⊎◌, filter, Contains}
use Rattle.std.specs.List.{list_any}
use Rattle.std.proofs.lemmas.Bool.{or_cases, or_left, or_right, and_from}
use Rattle.std.specs.Cmp.{both_ways}
use Rattle.fcg_analysis.specs.Walks.{Walk, step, onward, led_within, led_to}
use Rattle.fcg_analysis.proofs.General.Members.{IsIn, IsIn-from_Contains, Contains-from_IsIn, filter_in, in_filter, any_in, in_any, any_more, same_or_more, length-filter_all, and_first, and_second}

-- ---- the list is closed after as many steps as there are elements

module _ {X : Type 0} (leads : X → X → Bool) (xs : List X) (x : X) where
  grown : List X → List X
  grown nearer = filter (λ y. leads x y || list_any (λ z. leads z y) nearer) xs

  passes : ℕ → X → Bool
  passes zero y = false
  passes (suc n) y = leads x y || list_any (λ z. leads z y) (led_within leads xs n x)

  filter_none : (ys : List X) → [] ≡ filter (λ y. false) ys
  filter_none [] = refl
  filter_none (y ∷ ys) = filter_none ys

  as_filter : (n : ℕ) → led_within leads xs n x ≡ filter (passes n) xs
  unfolding passes
  as_filter zero = filter_none xs
  as_filter (suc n) = refl

  passes_more : (n : ℕ) (y : X) → passes n y ≡ true → passes (suc n) y ≡ true
  unfolding passes
  passes_more zero y h = absurd (cc)
  passes_more (suc n) y h =
      elim (or_cases (leads x y) (list_any (λ z. leads z y) (led_within leads xs n x)) h) [
        | inl t ↦ or_left (leads x y) (list_any (λ z. leads z y) (led_within leads xs (suc n) x)) t
        | inr t ↦ or_right (leads x y) (list_any (λ z. leads z y) (led_within leads xs (suc n) x)) (
            any_more (passes (suc n)) (passes n) (passes_more n) (λ z. leads z y) xs
            (subst (λ zs. list_any (λ z. leads z y) zs ≡ true) (as_filter n) t))
      ]

  -- it grows by one at least, or not any more
  grows : (n : ℕ) → (n ≤ length (led_within leads xs n x)) ⊎ (led_within leads xs (suc n) x ≡ led_within leads xs n x)
  unfolding passes grown
  grows zero = inl (omega arith)
  grows (suc n) =
      elim (grows n) [
        | inl l ↦ (elim (same_or_more (passes (suc (suc n))) (passes (suc n)) (passes_more (suc n)) xs) [
          | inl e ↦ inr e
          | inr k ↦ (elim (same_or_more (passes (suc n)) (passes n) (passes_more n) xs) [
            | inl e ↦ inr (ap grown (e ∙ sym (as_filter n)))
            | inr j ↦ inl (let a : length (led_within leads xs n x) ≡ length (filter (passes n) xs) = ap length (as_filter n) in omega arith)
          ])
        ])
        | inr e ↦ inr (ap grown e)
      ]

  pub closed : led_within leads xs (suc (length xs)) x ≡ led_to leads xs x
  unfolding passes
  closed =
      elim (grows (length xs)) [
        | inl l ↦ (elim (same_or_more (passes (suc (length xs))) (passes (length xs)) (passes_more (length xs)) xs) [
          | inl e ↦ e ∙ sym (as_filter (length xs))
          | inr k ↦ absurd (
              let a : length (led_within leads xs (length xs) x) ≡ length (filter (passes (length xs)) xs) = ap length (as_filter (length xs)) in
              let b : length (filter (passes (suc (length xs))) xs) ≤ length xs = length-filter_all (passes (suc (length xs))) xs in
              omega arith)
        ])
        | inr e ↦ e
      ]

  -- ---- and has what walks lead to

  walk_in : (y : X) → Walk leads xs x y → IsIn y (led_to leads xs x)
  walk_in y (step c t) = subst (IsIn y) closed
      (filter_in (λ z. leads x z || list_any (λ w. leads w z) (led_to leads xs x)) xs y (IsIn-from_Contains xs y c) (or_left (leads x y) (list_any (λ w. leads w y) (led_to leads xs x)) t))
  walk_in z (onward {y = y} w c t) = subst (IsIn z) closed
      (filter_in (λ z. leads x z || list_any (λ w. leads w z) (led_to leads xs x)) xs z (IsIn-from_Contains xs z c)
      (or_right (leads x z) (list_any (λ w. leads w z) (led_to leads xs x)) (any_in (λ v. leads v z) (led_to leads xs x) y (walk_in y w) t)))

  in_walk : (n : ℕ) (y : X) → IsIn y (led_within leads xs n x) → Walk leads xs x y
  in_walk zero y h = absurd h
  in_walk (suc n) y h =
      let r = in_filter (λ y. leads x y || list_any (λ z. leads z y) (led_within leads xs n x)) xs y h in
      let c = Contains-from_IsIn xs y r.0 in
      elim (or_cases (leads x y) (list_any (λ z. leads z y) (led_within leads xs n x)) r.1) [
        | inl t ↦ step c t
        | inr t ↦ (let v = in_any (λ z. leads z y) (led_within leads xs n x) t in onward (in_walk n v.0 v.1) c v.2)
      ]

pub walk_from_led : {X : Type 0} (leads : X → X → Bool) (xs : List X) (x y : X) → Contains (led_to leads xs x) y → Walk leads xs x y
walk_from_led leads xs x y c = in_walk leads xs x (length xs) y (IsIn-from_Contains _ y c)

pub led_from_walk : {X : Type 0} (leads : X → X → Bool) (xs : List X) (x y : X) → Walk leads xs x y → Contains (led_to leads xs x) y
led_from_walk leads xs x y w = Contains-from_IsIn _ y (walk_in leads xs x y w)

-- ---- laws of walks

pub walk_joined : {X : Type 0} {leads : X → X → Bool} {xs : List X} {x y z : X} → Walk leads xs x y → Walk leads xs y z → Walk leads xs x z
walk_joined w (step c t) = onward w c t
walk_joined w (onward v c t) = onward (walk_joined w v) c t

-- over more elements
pub walk_in_more : {X : Type 0} {leads : X → X → Bool} {xs ys : List X} {x y : X} → ((z : X) → Contains xs z → Contains ys z) → Walk leads xs x y → Walk leads ys x y
walk_in_more m (step c t) = step (m _ c) t
walk_in_more m (onward w c t) = onward (walk_in_more m w) (m _ c) t

pub walk_end : {X : Type 0} {leads : X → X → Bool} {xs : List X} {x y : X} → Walk leads xs x y → Contains xs y
walk_end (step c h) = c
walk_end (onward w c h) = c

-- the first step of a walk
pub walk_head : {X : Type 0} {leads : X → X → Bool} {xs : List X} {x y : X} → Walk leads xs x y
    → (leads x y ≡ true) ⊎ ((z : X) × Contains xs z × (leads x z ≡ true) × Walk leads xs z y)
walk_head (step c h) = inl h
walk_head (onward {y = y} {z = z} w c h) =
    elim (walk_head w) [
      | inl e ↦ inr (y, walk_end w, e, step c h)
      | inr r ↦ inr (r.0, r.1, r.2, onward r.3 c h)
    ]

-- what passes above x is what a first step leads to, or passes above that
pub any_led_goes_on : {X : Type 0} (leads : X → X → Bool) (xs : List X) (p : X → Bool) (x : X)
    → list_any p (led_to leads xs x) ≡ list_any (λ y. leads x y && (p y || list_any p (led_to leads xs y))) xs
any_led_goes_on {X} leads xs p x = both_ways (list_any p (led_to leads xs x)) (list_any there xs) forth back
  where
    there : X → Bool
    there y = leads x y && (p y || list_any p (led_to leads xs y))

    forth : list_any p (led_to leads xs x) ≡ true → list_any there xs ≡ true
    forth h =
        let u = in_any p (led_to leads xs x) h in
        let w = walk_from_led leads xs x u.0 (Contains-from_IsIn _ u.0 u.1) in
        elim (walk_head w) [
          | inl e ↦ any_in there xs u.0 (IsIn-from_Contains xs u.0 (walk_end w)) (and_from (leads x u.0) _ e (or_left (p u.0) _ u.2))
          | inr r ↦ any_in there xs r.0 (IsIn-from_Contains xs r.0 r.1)
              (and_from (leads x r.0) _ r.2 (or_right (p r.0) _ (any_in p (led_to leads xs r.0) u.0 (IsIn-from_Contains _ u.0 (led_from_walk leads xs r.0 u.0 r.3)) u.2)))
        ]

    back : list_any there xs ≡ true → list_any p (led_to leads xs x) ≡ true
    back h =
        let y = in_any there xs h in
        let e = and_first (leads x y.0) (p y.0 || list_any p (led_to leads xs y.0)) y.2 in
        let first : Walk leads xs x y.0 = step (Contains-from_IsIn xs y.0 y.1) e in
        elim (or_cases (p y.0) (list_any p (led_to leads xs y.0)) (and_second (leads x y.0) (p y.0 || list_any p (led_to leads xs y.0)) y.2)) [
          | inl t ↦ any_in p (led_to leads xs x) y.0 (IsIn-from_Contains _ y.0 (led_from_walk leads xs x y.0 first)) t
          | inr t ↦ (let u = in_any p (led_to leads xs y.0) t in
              any_in p (led_to leads xs x) u.0 (IsIn-from_Contains _ u.0 (led_from_walk leads xs x u.0 (walk_joined first (walk_from_led leads xs y.0 u.0 (Contains-from_IsIn _ u.0 u.1))))) u.2)
        ]
