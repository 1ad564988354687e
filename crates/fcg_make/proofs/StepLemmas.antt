-- The first instruction of some sites.
use Rattle.std.proofs.Common.{◌≡◌, ◌⊎◌, inl, inr, ℕ, suc, ◌<◌, ◌≤◌, Bool, true, false, ◌&&◌, eqb, List, [], ◌∷◌, length, take, drop, length-drop, refl, sym, ap, ◌∙◌, arith, add-one}
use Rattle.std.proofs.lemmas.Bool.Decides.{Decides-eqb}
use Rattle.fcg_views.specs.declared.view.Site.{Site}
use Rattle.fcg_make.specs.Steps.{Step, is_handle, is_joined, joined_after, alone, before, steps_of}
use Rattle.fcg_make.proofs.TableLemmas.{at_bool}

-- an instruction of a site and of so many after it, and then the others
abbrev pub split_at : Site → ℕ → List Site → List Step
split_at s n ts = record { first = s; more = take n ts } ∷ steps_of (drop n ts)

pub joined_by : (a b c : Bool) → (a && (b && c)) ≡ true → (a ≡ true) × (b ≡ true) × (c ≡ true)
joined_by true true true e = (refl, refl, refl)
joined_by true true false e = absurd cc
joined_by true false c e = absurd cc
joined_by false b c e = absurd cc

-- sites that are joined to one of two that are joined are joined to both
joined_alike : (s t u : Site) → is_joined s t ≡ true → is_joined s u ≡ is_joined t u
joined_alike s t u e =
    let j = joined_by (is_handle s.kind) (is_handle t.kind) (eqb s.pc t.pc) e in
    let same : s.pc ≡ t.pc = (Decides-eqb s.pc t.pc).0 j.2 in
    rw (j.0, j.1, same) refl

after_alike : (s t : Site) → is_joined s t ≡ true → (us : List Site) → joined_after s us ≡ joined_after t us
after_alike s t e [] = refl
after_alike s t e (u ∷ us) = rw (joined_alike s t u e, after_alike s t e us) refl

-- the instructions of some sites, the first of which has its own
pub first_step : (s : Site) (ts : List Site) → steps_of (s ∷ ts) ≡ split_at s (joined_after s ts) ts
first_step s [] = refl
first_step s (t ∷ ts) = split (first_step t ts) (at_bool (is_joined s t))
  where
    split : steps_of (t ∷ ts) ≡ split_at t (joined_after t ts) ts → (is_joined s t ≡ true) ⊎ (is_joined s t ≡ false) → steps_of (s ∷ (t ∷ ts)) ≡ split_at s (joined_after s (t ∷ ts)) (t ∷ ts)
    split here (inl j) = ap (before s) here ∙ rw (j, after_alike s t j ts, add-one) refl
    split here (inr n) = ap (before s) here ∙ rw n (ap (λ (steps : List Step). alone s ∷ steps) (sym here))

pub joined_after-le : (s : Site) (ts : List Site) → joined_after s ts ≤ length ts
joined_after-le s [] = omega arith
joined_after-le s (t ∷ ts) = split (joined_after-le s ts) (at_bool (is_joined s t))
  where
    split : joined_after s ts ≤ length ts → (is_joined s t ≡ true) ⊎ (is_joined s t ≡ false) → joined_after s (t ∷ ts) ≤ suc (length ts)
    split le (inl j) = rw j (omega (arith, le))
    split le (inr n) = rw n (omega arith)

pub splits : (sites others more rest : List Site) (s : Site) (n : ℕ) → sites ≡ s ∷ others → n ≡ joined_after s others → more ≡ take n others → rest ≡ drop n others
    → (steps_of sites ≡ record { first = s; more = more } ∷ steps_of rest) × (length rest < length sites)
splits sites others more rest s n is counted front back =
    rw (is, front, back, counted) (first_step s others, omega (arith, length-drop (joined_after s others) others))
