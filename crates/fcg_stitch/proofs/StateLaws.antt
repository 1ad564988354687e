-- What is known of the references of parts: nothing at first, and then more and more.
use Rattle.std.proofs.Common.{◌≡◌, ℕ, zero, suc, ◌<◌, List, [], ◌∷◌, length, get_or, replicate, refl, sym, ap, ◌∙◌, inl, inr, ◌⊎◌, arith}
use Rattle.std.specs.Prelude.{Option, Some, None, map, slice_get, slice_set}
use Rattle.std.proofs.lemmas.Bool.{cases_eq, cases_lt}
use Rattle.std.proofs.lemmas.List.{get_or-replicate, get_or_past, get_or-set_other, get_or-map, length-replicate, length-set, map-set, set_past}
use Rattle.std.proofs.lemmas.Grind.{get_or-set_at}
use Rattle.std.proofs.lemmas.Option.{slice_get_within}
use Rattle.fcg_partial.specs.Parts.{PartShown}
use Rattle.fcg_partial.specs.Views.{graph_of}
use Rattle.fcg_stitch.specs.declared.states.RefState.{RefState}
use Rattle.fcg_stitch.specs.Internal.Rows.{state_at, HavePlaces}

-- ---- nothing is known
abbrev unknown : PartShown → List (Option RefState)
unknown p = replicate (length (graph_of p.views).refs) None

none_in : (n r : ℕ) → get_or (replicate {A = Option RefState} n None) r None ≡ None
none_in n r = elim (cases_lt r n) [
  | inl l ↦ get_or-replicate n r None None l
  | inr g ↦ get_or_past (replicate n None) r None (let e = length-replicate {A = Option RefState} n None in omega arith)
]

pub none_known : (parts : List PartShown) (i r : ℕ) → state_at (map unknown parts) i r ≡ None
none_known [] i r = refl
none_known (p ∷ ps) zero r = none_in (length (graph_of p.views).refs) r
none_known (p ∷ ps) (suc i) r = none_known ps i r

-- ---- one more is known
module _ (states : List (List (Option RefState))) (part r : ℕ) (s : RefState) where
  abbrev row_after : List (Option RefState)
  row_after = slice_set (get_or states part []) r (Some s)

  abbrev pub after : List (List (Option RefState))
  after = slice_set states part row_after

  pub put_places : (parts : List PartShown) → HavePlaces parts states → HavePlaces parts after
  put_places parts h = record { long = length-set states part row_after ∙ h.long; each = each }
    where
      each : (i : ℕ) (p : PartShown) → slice_get parts i ≡ Some p → length (get_or after i []) ≡ length (graph_of p.views).refs
      each i p e = elim (cases_eq i part) [
        | inl q ↦ (let l = slice_get_within parts i p e in
            let long = h.long in
            let there : i < length states = omega arith in
            let same : part < length states = omega arith in
            ap (λ (xs : List (Option RefState)). length xs) (get_or-set_at states part i row_after [] q same) ∙ length-set (get_or states part []) r (Some s)
            ∙ ap (λ (k : ℕ). length (get_or states k [])) (sym q) ∙ h.each i p e)
        | inr ne ↦ ap (λ (xs : List (Option RefState)). length xs) (get_or-set_other states part i row_after [] ne) ∙ h.each i p e
      ]

  abbrev IsKept : ℕ → ℕ → RefState → Type 0
  IsKept i k t = ((t ≡ s) × (i ≡ part) × (k ≡ r)) ⊎ (state_at states i k ≡ Some t)

  -- in the row that is changed
  in_row : (i k : ℕ) (t : RefState) → i ≡ part → get_or row_after k None ≡ Some t → IsKept i k t
  in_row i k t q h =
      let row = get_or states part [] in
      let own : get_or (get_or states i []) k None ≡ get_or row k None = ap (λ (j : ℕ). get_or (get_or states j []) k None) q in
      elim (cases_eq k r) [
        | inr ne ↦ inr (own ∙ sym (get_or-set_other row r k (Some s) None ne) ∙ h)
        | inl same ↦ elim (cases_lt r (length row)) [
          | inl l ↦ (let e : Some s ≡ Some t = sym (get_or-set_at row r k (Some s) None same l) ∙ h in inl (cc, q, same))
          | inr g ↦ inr (own ∙ sym (ap (λ (xs : List (Option RefState)). get_or xs k None) (set_past row r (Some s) g)) ∙ h)
        ]
      ]

  pub put_others : (i k : ℕ) (t : RefState) → state_at after i k ≡ Some t → IsKept i k t
  put_others i k t h = elim (cases_eq i part) [
    | inr ne ↦ inr (ap (λ (xs : List (Option RefState)). get_or xs k None) (sym (get_or-set_other states part i row_after [] ne)) ∙ h)
    | inl q ↦ elim (cases_lt part (length states)) [
      | inl l ↦ in_row i k t q (ap (λ (xs : List (Option RefState)). get_or xs k None) (sym (get_or-set_at states part i row_after [] q l)) ∙ h)
      | inr g ↦ inr (ap (λ (xs : List (List (Option RefState))). state_at xs i k) (sym (set_past states part row_after g)) ∙ h)
    ]
  ]

-- a row of a list is changed by what is put into it
pub put_is : {V : Type 0} (f : V → List (Option RefState)) (vs : List V) (part r : ℕ) (s : RefState) (old new : V) → part < length vs → old ≡ get_or vs part old → f new ≡ slice_set (f old) r (Some s)
    → map f (slice_set vs part new) ≡ after (map f vs) part r s
put_is f vs part r s old new l e h =
    let own : f old ≡ get_or (map f vs) part [] = ap f e ∙ sym (get_or-map f vs part old [] l) in
    map-set f vs part new ∙ ap (λ (row : List (Option RefState)). slice_set (map f vs) part row) (h ∙ ap (λ (row : List (Option RefState)). slice_set row r (Some s)) own)
