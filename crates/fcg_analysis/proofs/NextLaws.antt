-- The next node on the way to the target.
use Rattle.std.proofs.Common.{◌≡◌, ℕ, zero, suc, ◌+◌, ◌<◌, ◌≤◌, List, [], ◌∷◌, refl, sym, ap, ◌∙◌, arith}
use Rattle.std.specs.Prelude.{Bool, true, false, ◌&&◌, find, Option, Some, None}
use Rattle.std.specs.List.{range_with_len}
use Rattle.std.proofs.lemmas.Bool.{and_from, false_from_ne_true}
use Rattle.std.proofs.lemmas.Bool.Decides.{Decides-eqb}
use Rattle.fcg_analysis.specs.Reach.{Edges, leads, dist, next, is_next_of, WalkOf, here, onward}
use Rattle.fcg_analysis.specs.Laws.Statements.{IsNext}
use Rattle.fcg_analysis.proofs.General.Members.{and_first, and_second, find_none}
use Rattle.fcg_analysis.proofs.General.Ranges.{find_least, range_in}
use Rattle.fcg_analysis.proofs.ReachLaws.{dist_is_least}

record Steps (a b : Option ℕ) : Type 0 where
  steps : ℕ
  far : b ≡ Some (steps + 1)
  near : a ≡ Some steps

steps_of : (a b : Option ℕ) → is_next_of a b ≡ true → Steps a b
steps_of None b h = absurd (cc)
steps_of (Some n) None h = absurd (cc)
steps_of (Some n) (Some d) h = record { steps = n; far = ap Some (sym ((Decides-eqb (n + 1) d).0 h)); near = refl }

first_step : (es : Edges) (count target m k : ℕ) → WalkOf es count target m (suc k) → (u : ℕ) × (m < count) × (leads es m u ≡ true) × WalkOf es count target u k
first_step es count target m k (onward {u = u} l h w) = (u, l, h, w)

module _ (es : Edges) (count target : ℕ) where
  pub begins_below : (k u : ℕ) → target < count → WalkOf es count target u k → u < count
  begins_below zero target t here = t
  begins_below (suc k) u t (onward l h w) = l

module _ (es : Edges) (count target m : ℕ) where
  passes : ℕ → Bool
  passes u = leads es m u && is_next_of (dist es count target u) (dist es count target m)

  pub next_found : (u : ℕ) → next es count target m ≡ Some u → IsNext es count target m u
  unfolding next passes
  next_found u e =
      let f = find_least passes 0 count u e in
      let l = and_first (leads es m u) (is_next_of (dist es count target u) (dist es count target m)) f.0 in
      let s = steps_of (dist es count target u) (dist es count target m) (and_second (leads es m u) (is_next_of (dist es count target u) (dist es count target m)) f.0) in
      record {
        steps = s.steps;
        from' = s.far;
        here = s.near;
        leads' = l;
        least = λ v k t q. f.1 v (omega arith) (and_from (leads es m v) _ t
            (ap (λ o. is_next_of o (dist es count target m)) q ∙ ap (λ o. is_next_of (Some s.steps) o) s.far ∙ (Decides-eqb (s.steps + 1) (s.steps + 1)).1 refl));
      }

  -- the first step of a least walk
  pub record First (d : ℕ) : Type 0 where
    pub node : ℕ
    pub small : node < count
    pub leads' : leads es m node ≡ true
    pub near : dist es count target node ≡ Some d

  pub walk_first : (d : ℕ) → target < count → dist es count target m ≡ Some (suc d) → WalkOf es count target m (suc d) → First d
  walk_first d t e w =
      let s = first_step es count target m d w in
      record { node = s.0; small = begins_below es count target d s.0 t s.3; leads' = s.2; near = exact s.0 s.1 s.2 s.3 (dist es count target s.0) refl }
    where
      exact : (u : ℕ) → m < count → leads es m u ≡ true → WalkOf es count target u d → (o : Option ℕ) → dist es count target u ≡ o → dist es count target u ≡ Some d
      exact u l h w None q = absurd ((dist_is_least es count target u).none q d w)
      exact u l h w (Some k) q =
          let x = (dist_is_least es count target u).found k q in
          let y = (dist_is_least es count target m).found (suc d) e in
          let a : k ≤ d = x.least d w in
          let b : suc d ≤ suc k = y.least (suc k) (onward l h x.walks) in
          let same : k ≡ d = omega arith in
          q ∙ ap Some same

  pub next_is_there : (d : ℕ) → target < count → dist es count target m ≡ Some (suc d) → next es count target m ≡ None → ⊥
  unfolding next passes
  next_is_there d t e n =
      let x = (dist_is_least es count target m).found (suc d) e in
      let f = walk_first d t e x.walks in
      find_none passes (range_with_len 0 count) f.node n (range_in 0 count f.node (omega arith) (omega (arith, f.small)))
      (and_from (leads es m f.node) _ f.leads' (ap (λ o. is_next_of o (dist es count target m)) f.near ∙ ap (λ o. is_next_of (Some d) o) e ∙ (Decides-eqb (d + 1) (suc d)).1 (omega arith)))

-- the target has distance 0, and so no next
pub target_is_last : (es : Edges) (count target : ℕ) → next es count target target ≡ None
unfolding next
target_is_last es count target = none (range_with_len 0 count)
  where
    near : dist es count target target ≡ Some 0
    near = at (dist es count target target) refl
      where
        at : (o : Option ℕ) → dist es count target target ≡ o → dist es count target target ≡ Some 0
        at None q = absurd ((dist_is_least es count target target).none q 0 here)
        at (Some k) q = let l : k ≤ 0 = ((dist_is_least es count target target).found k q).least 0 here in let z : k ≡ 0 = omega arith in q ∙ ap Some z

    stays : (o : Option ℕ) → is_next_of o (Some 0) ≡ false
    stays None = refl
    stays (Some n) = false_from_ne_true _ (λ t. let e : n + 1 ≡ 0 = (Decides-eqb (n + 1) 0).0 t in omega arith)

    at : (u : ℕ) → (leads es target u && is_next_of (dist es count target u) (dist es count target target)) ≡ false
    at u = ap (λ o. leads es target u && is_next_of (dist es count target u) o) near ∙ ap (λ b. leads es target u && b) (stays (dist es count target u)) ∙ never (leads es target u)
      where
        never : (b : Bool) → (b && false) ≡ false
        never true = refl
        never false = refl

    none : (us : List ℕ) → find (λ u. leads es target u && is_next_of (dist es count target u) (dist es count target target)) us ≡ None
    none [] = refl
    none (u ∷ us) = rw (at u) (none us)
