-- Reading rows one after the other, as a loop does.
use Rattle.std.proofs.Common.{◌≡◌, ℕ, suc, ◌-◌, ◌+◌, ◌≤◌, ◌<◌, List, [], ◌∷◌, ◌++◌, length, get_or, drop, refl, sym, ap, ◌∙◌, append_assoc, arith}
use Rattle.std.specs.Prelude.{Result, Ok, Err}
use Rattle.std.proofs.Math.ListN.{drop_of_length-le}
use Rattle.std.proofs.lemmas.List.{append-nil, drop_more}
use Rattle.fcg_grammar.specs.declared.error.ReadError.{ReadError}
use Rattle.fcg_grammar.specs.declared.error.ReadError.TheVariants as errors
use Rattle.fcg_grammar.specs.Reading.{◌>>=◌, Fails}
use Rattle.fcg_grammar.specs.Rows.{rows, ended, each}

module _ {X S E : Type 0} where
  -- what was read before, and what is still read
  abbrev pub with_front : List X → Result (List X × S) E → Result (List X × S) E
  with_front front read = read >>= λ x. Ok (front ++ x.0, x.1)

  regroup : (front : List X) (x : X) (read : Result (List X × S) E) → with_front front (read >>= λ y. Ok (x ∷ y.0, y.1)) ≡ with_front (front ++ x ∷ []) read
  regroup front x (Ok y) = ap (λ (xs : List X). Ok (xs, y.1)) (simp append_assoc)
  regroup front x (Err f) = refl

  pub rows_go_on : (read : ℕ → S → Result (X × S) E) (front : List X) (count k : ℕ) (at : S) (x : X) (after : S) (total : Result (List X × S) E) → k < count → read k at ≡ Ok (x, after)
      → with_front front (rows read (count - k) k at) ≡ total → with_front (front ++ x ∷ []) (rows read (count - (k + 1)) (k + 1) after) ≡ total
  rows_go_on read front count k at x after total lt h so_far =
      let n : count - k ≡ suc (count - (k + 1)) = omega arith in
      let one : with_front front (rows read (count - k) k at) ≡ with_front (front ++ x ∷ []) (rows read (count - (k + 1)) (k + 1) after) = rw (n, h) (regroup front x (rows read (count - (k + 1)) (k + 1) after)) in
      sym one ∙ so_far

  pub rows_end : (read : ℕ → S → Result (X × S) E) (front : List X) (count k : ℕ) (at : S) (f : E) (total : Result (List X × S) E) → k < count → read k at ≡ Err f
      → with_front front (rows read (count - k) k at) ≡ total → total ≡ Err f
  rows_end read front count k at f total lt h so_far =
      let n : count - k ≡ suc (count - (k + 1)) = omega arith in
      let one : with_front front (rows read (count - k) k at) ≡ Err f = rw (n, h) refl in
      sym so_far ∙ one

  pub rows_done : (read : ℕ → S → Result (X × S) E) (front : List X) (count k : ℕ) (at : S) (total : Result (List X × S) E) → count ≤ k
      → with_front front (rows read (count - k) k at) ≡ total → total ≡ Ok (front, at)
  rows_done read front count k at total le so_far =
      let n : count - k ≡ 0 = omega arith in
      let one : with_front front (rows read (count - k) k at) ≡ Ok (front, at) = rw n (ap (λ (xs : List X). Ok (xs, at)) (append-nil front)) in
      sym so_far ∙ one

  -- as rows_end, at the error of a reader
  pub rows_fail : (read : ℕ → S → Result (X × S) E) (e : ReadError E) (front : List X) (count k : ℕ) (at : S) (total : Result (List X × S) E) → k < count → Fails e (read k at)
      → with_front front (rows read (count - k) k at) ≡ total → Fails e total
  rows_fail read errors.NoMemory front count k at total lt h so_far = tt
  rows_fail read (errors.Fault f) front count k at total lt h so_far = rows_end read front count k at f total lt h so_far

  -- ---- rows whose values aren't kept
  forget : (x : X) (read : Result (List X × S) E) → ended (read >>= λ y. Ok (x ∷ y.0, y.1)) ≡ ended read
  forget x (Ok y) = refl
  forget x (Err f) = refl

  pub ended_goes_on : (read : ℕ → S → Result (X × S) E) (count k : ℕ) (at : S) (x : X) (after : S) (total : Result S E) → k < count → read k at ≡ Ok (x, after)
      → ended (rows read (count - k) k at) ≡ total → ended (rows read (count - (k + 1)) (k + 1) after) ≡ total
  ended_goes_on read count k at x after total lt h so_far =
      let n : count - k ≡ suc (count - (k + 1)) = omega arith in
      let one : ended (rows read (count - k) k at) ≡ ended (rows read (count - (k + 1)) (k + 1) after) = rw (n, h) (forget x (rows read (count - (k + 1)) (k + 1) after)) in
      sym one ∙ so_far

  pub ended_fails : (read : ℕ → S → Result (X × S) E) (count k : ℕ) (at : S) (f : E) (total : Result S E) → k < count → read k at ≡ Err f
      → ended (rows read (count - k) k at) ≡ total → total ≡ Err f
  ended_fails read count k at f total lt h so_far =
      let n : count - k ≡ suc (count - (k + 1)) = omega arith in
      let one : ended (rows read (count - k) k at) ≡ Err f = rw (n, h) refl in
      sym so_far ∙ one

  pub ended_done : (read : ℕ → S → Result (X × S) E) (count k : ℕ) (at : S) (total : Result S E) → count ≤ k
      → ended (rows read (count - k) k at) ≡ total → total ≡ Ok at
  ended_done read count k at total le so_far =
      let n : count - k ≡ 0 = omega arith in
      let one : ended (rows read (count - k) k at) ≡ Ok at = rw n refl in
      sym so_far ∙ one

module _ {X E : Type 0} where
  pub each_goes_on : (rule : ℕ → X → Result (Unit {0}) E) (k i : ℕ) (xs : List X) (d : X) (total : Result (Unit {0}) E) → i < length xs → rule (i + k) (get_or xs i d) ≡ Ok tt
      → each rule (i + k) (drop i xs) ≡ total → each rule (i + 1 + k) (drop (i + 1) xs) ≡ total
  each_goes_on rule k i xs d total lt kept so_far =
      let n : i + k + 1 ≡ i + 1 + k = omega arith in
      let one : each rule (i + k) (drop i xs) ≡ each rule (i + 1 + k) (drop (i + 1) xs) = rw (drop_more xs i d lt, kept, n) refl in
      sym one ∙ so_far

  pub each_ends : (rule : ℕ → X → Result (Unit {0}) E) (k i : ℕ) (xs : List X) (d : X) (f : E) (total : Result (Unit {0}) E) → i < length xs → rule (i + k) (get_or xs i d) ≡ Err f
      → each rule (i + k) (drop i xs) ≡ total → total ≡ Err f
  each_ends rule k i xs d f total lt broken so_far =
      let one : each rule (i + k) (drop i xs) ≡ Err f = rw (drop_more xs i d lt, broken) refl in
      sym so_far ∙ one

  pub each_done : (rule : ℕ → X → Result (Unit {0}) E) (k i : ℕ) (xs : List X) (total : Result (Unit {0}) E) → length xs ≤ i → each rule (i + k) (drop i xs) ≡ total → total ≡ Ok tt
  each_done rule k i xs total le so_far =
      let one : each rule (i + k) (drop i xs) ≡ Ok tt = rw (drop_of_length-le xs le) refl in
      sym so_far ∙ one
