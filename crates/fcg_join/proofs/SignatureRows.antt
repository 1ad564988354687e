-- Of each node the number of its signature, by the rows of nodes.
use Rattle.std.proofs.Common.{◌≡◌, ℕ, zero, suc, ◌+◌, ◌<◌, List, [], ◌∷◌, length, get_or, set, drop, refl, sym, ap, ◌∙◌, ◌⊎◌, inl, inr, arith}
use Rattle.std.proofs.lemmas.Bool.{cases_eq}
use Rattle.std.proofs.lemmas.List.{length-set, get_or-set_same, get_or-set_other, drop_more}
use Rattle.fcg_analysis.proofs.General.Members.{IsIn}
use Rattle.fcg_join.specs.Internal.Signatures.{set_all, set_rows}

pub set_all_long : (s : ℕ) (ks numbers : List ℕ) → length (set_all s ks numbers) ≡ length numbers
set_all_long s [] numbers = refl
set_all_long s (k ∷ ks) numbers = set_all_long s ks (set numbers k s) ∙ length-set numbers k s

pub set_rows_long : (s : ℕ) (rows : List (List ℕ)) (numbers : List ℕ) → length (set_rows s rows numbers) ≡ length numbers
set_rows_long s [] numbers = refl
set_rows_long s (row ∷ rows) numbers = set_rows_long (suc s) rows (set_all s row numbers) ∙ set_all_long s row numbers

pub set_rows_next : (rows : List (List ℕ)) (s : ℕ) (row old new : List ℕ) → s < length rows → row ≡ get_or rows s [] → new ≡ set_all s row old → set_rows (s + 1) (drop (s + 1) rows) new ≡ set_rows s (drop s rows) old
set_rows_next rows s row old new l e f =
    let more : drop s rows ≡ row ∷ drop (s + 1) rows = drop_more rows s [] l ∙ ap (λ r. r ∷ drop (s + 1) rows) (sym e) in
    let up : s + 1 ≡ suc s = omega arith in
    ap (set_rows (s + 1) (drop (s + 1) rows)) f ∙ ap (λ n. set_rows n (drop (s + 1) rows) (set_all s row old)) up ∙ sym (ap (λ rs. set_rows s rs old) more)

-- each place in a row has the value of the row, where this is the row's number
module _ (value : ℕ → ℕ) where
  set_all_value : (s : ℕ) (ks numbers : List ℕ) → ((k : ℕ) → IsIn k ks → (k < length numbers) × (value k ≡ s))
      → (j : ℕ) → (get_or numbers j 0 ≡ value j) ⊎ IsIn j ks → get_or (set_all s ks numbers) j 0 ≡ value j
  set_all_value s [] numbers h j (inl e) = e
  set_all_value s [] numbers h j (inr a) = absurd a
  set_all_value s (k ∷ ks) numbers h j a =
      set_all_value s ks (set numbers k s) (λ i m. (let r = h i (inr m) in let n = length-set numbers k s in ((let b = r.0 in omega arith), r.1))) j (at (cases_eq j k) a)
    where
      at : (j ≡ k) ⊎ (j ≡ k → ⊥) → (get_or numbers j 0 ≡ value j) ⊎ IsIn j (k ∷ ks) → (get_or (set numbers k s) j 0 ≡ value j) ⊎ IsIn j ks
      at (inl e) b = inl (ap (λ i. get_or (set numbers k s) i 0) e ∙ get_or-set_same numbers k s 0 (h k (inl refl)).0 ∙ sym (h k (inl refl)).1 ∙ ap value (sym e))
      at (inr d) (inl e) = inl (get_or-set_other numbers k j s 0 d ∙ e)
      at (inr d) (inr (inl e)) = absurd (d (sym e))
      at (inr d) (inr (inr m)) = inr m

  pub set_rows_value : (s : ℕ) (rows : List (List ℕ)) (numbers : List ℕ) → ((i k : ℕ) → i < length rows → IsIn k (get_or rows i []) → (k < length numbers) × (value k ≡ s + i))
      → (j : ℕ) → (get_or numbers j 0 ≡ value j) ⊎ ((i : ℕ) × (i < length rows) × IsIn j (get_or rows i [])) → get_or (set_rows s rows numbers) j 0 ≡ value j
  set_rows_value s [] numbers h j (inl e) = e
  set_rows_value s [] numbers h j (inr a) = absurd (let l = a.1 in omega arith)
  set_rows_value s (row ∷ rows) numbers h j a =
      set_rows_value (suc s) rows (set_all s row numbers)
      (λ i k l m. (let r = h (suc i) k (omega arith) m in let n = set_all_long s row numbers in ((let b = r.0 in omega arith), (let e = r.1 in omega arith)))) j (at a)
    where
      own : (k : ℕ) → IsIn k row → (k < length numbers) × (value k ≡ s)
      own k m = (let r = h 0 k (omega arith) m in (r.0, (let e = r.1 in omega arith)))

      there : (i : ℕ) → i < length (row ∷ rows) → IsIn j (get_or (row ∷ rows) i []) → (get_or (set_all s row numbers) j 0 ≡ value j) ⊎ ((i : ℕ) × (i < length rows) × IsIn j (get_or rows i []))
      there zero l m = inl (set_all_value s row numbers own j (inr m))
      there (suc i) l m = inr (i, omega arith, m)

      at : (get_or numbers j 0 ≡ value j) ⊎ ((i : ℕ) × (i < length (row ∷ rows)) × IsIn j (get_or (row ∷ rows) i [])) → (get_or (set_all s row numbers) j 0 ≡ value j) ⊎ ((i : ℕ) × (i < length rows) × IsIn j (get_or rows i []))
      at (inl e) = inl (set_all_value s row numbers own j (inl e))
      at (inr r) = there r.0 r.1 r.2
