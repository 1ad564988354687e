-- The first fault of a chain, of a table and of a list of rules: all before it was read, or kept its rule.
use Rattle.std.proofs.Common.{◌≡◌, ℕ, zero, suc, ◌+◌, ◌<◌, List, [], ◌∷◌, length, get_or, refl, ap, ◌∙◌, ◌⊎◌, inl, inr, arith}
use Rattle.std.specs.Prelude.{Result, Ok, Err}
use Rattle.fcg_grammar.specs.Reading.{◌>>=◌}
use Rattle.fcg_grammar.specs.Rows.{rows, each}
use Rattle.fcg_grammar.specs.First.{BreaksFirst, AllKept}
use Rattle.fcg_grammar.proofs.LawLemmas.{bind_ok}

-- an item that is broken, or one that keeps its rules and a broken one after it
pub bind_err : {A B E : Type 0} (r : Result A E) (f : A → Result B E) (d : E) → (r >>= f) ≡ Err d → (r ≡ Err d) ⊎ ((x : A) × (r ≡ Ok x) × (f x ≡ Err d))
bind_err (Ok x) f d e = inr (x, refl, e)
bind_err (Err c) f d e = let same : c ≡ d = cc in inl (ap (λ (z : _). Err z) same)

module _ {X S E : Type 0} (read : ℕ → S → Result (X × S) E) where
  -- the rows before the first broken one were read
  pub record BrokenRow (n k : ℕ) (s : S) (f : E) : Type 0 where
    pub front : List X
    pub at : S
    pub read_is : rows read (length front) k s ≡ Ok (front, at)
    pub before : length front < n
    pub broken : read (k + length front) at ≡ Err f

  pub rows_err : (n k : ℕ) (s : S) (f : E) → rows read n k s ≡ Err f → BrokenRow n k s f
  rows_err zero k s f e = absurd cc
  rows_err (suc n) k s f e =
      elim (bind_err (read k s) _ f e) [
        | inl here ↦ record { front = []; at = s; read_is = refl; before = omega arith; broken = (let z : k + 0 ≡ k = omega arith in rw z here) }
        | inr there ↦ elim (bind_err (rows read n (k + 1) there.0.1) _ f there.2) [
          | inl below ↦ (
              let r = rows_err n (k + 1) there.0.1 f below in
              more n k s f there.0.0 there.0.1 there.1 r
              )
          | inr none ↦ (let bad = none.2 in absurd cc)
        ]
      ]
    where
      more : (n k : ℕ) (s : S) (f : E) (x : X) (t : S) → read k s ≡ Ok (x, t) → BrokenRow n (k + 1) t f → BrokenRow (suc n) k s f
      more n k s f x t is r =
          let lt = r.before in
          let place : k + suc (length r.front) ≡ k + 1 + length r.front = omega arith in
          record { front = x ∷ r.front; at = r.at; read_is = rw (is, r.read_is) refl; before = omega arith; broken = rw place r.broken }

module _ {X E : Type 0} (rule : ℕ → X → Result (Unit {0}) E) where
  pub each_ok : (k : ℕ) (xs : List X) → each rule k xs ≡ Ok tt → AllKept rule k xs
  each_ok k [] e i d lt = absurd (omega arith)
  each_ok k (x ∷ xs) e zero d lt =
      let b = bind_ok (rule k x) (λ kept. each rule (k + 1) xs) tt e in
      let n : 0 + k ≡ k = omega arith in
      rw n b.1
  each_ok k (x ∷ xs) e (suc i) d lt =
      let b = bind_ok (rule k x) (λ kept. each rule (k + 1) xs) tt e in
      let n : suc i + k ≡ i + (k + 1) = omega arith in
      let below : i < length xs = omega arith in
      rw n (each_ok (k + 1) xs b.2 i d below)

  at_once : (k : ℕ) (x : X) (xs : List X) (f : E) → rule k x ≡ Err f → BreaksFirst rule k (x ∷ xs) f
  at_once k x xs f e = record {
    place = 0;
    within = omega arith;
    broken = λ d. (let n : 0 + k ≡ k = omega arith in rw n e);
    before = λ j d lt. absurd (omega arith);
  }

  later : (k : ℕ) (x : X) (xs : List X) (f : E) → rule k x ≡ Ok tt → BreaksFirst rule (k + 1) xs f → BreaksFirst rule k (x ∷ xs) f
  later k x xs f kept b = record {
    place = suc b.place;
    within = (let lt = b.within in omega arith);
    broken = λ d. (let n : suc b.place + k ≡ b.place + (k + 1) = omega arith in rw n (b.broken d));
    before = before;
  }
    where
      before : (j : ℕ) (d : X) → j < suc b.place → rule (j + k) (get_or (x ∷ xs) j d) ≡ Ok tt
      before zero d lt = let n : 0 + k ≡ k = omega arith in rw n kept
      before (suc j) d lt =
          let n : suc j + k ≡ j + (k + 1) = omega arith in
          let below : j < b.place = omega arith in
          rw n (b.before j d below)

  by_first : (k : ℕ) (x : X) (xs : List X) (f : E) (r : Result (Unit {0}) E) → rule k x ≡ r → (r >>= λ kept. each rule (k + 1) xs) ≡ Err f → (each rule (k + 1) xs ≡ Err f → BreaksFirst rule (k + 1) xs f) → BreaksFirst rule k (x ∷ xs) f
  by_first k x xs f (Ok u) is e next = later k x xs f is (next e)
  by_first k x xs f (Err g) is e next = let same : g ≡ f = cc in at_once k x xs f (is ∙ ap (λ (h : E). Err h) same)

  pub each_err : (k : ℕ) (xs : List X) (f : E) → each rule k xs ≡ Err f → BreaksFirst rule k xs f
  each_err k [] f e = absurd cc
  each_err k (x ∷ xs) f e = by_first k x xs f (rule k x) refl e (each_err (k + 1) xs f)
