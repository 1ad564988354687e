-- Rows whose values are what is spelled: what is read is spelled so, and what is spelled so is read.
use Rattle.std.proofs.Common.{◌≡◌, ℕ, zero, suc, ◌+◌, ◌≤◌, List, [], ◌∷◌, ◌++◌, length, refl, sym, ap, subst, ◌∙◌, append_assoc}
use Rattle.std.specs.Prelude.{Result, Ok}
use Rattle.std.specs.List.{flat_map, AllByRecursion}
use Rattle.std.proofs.lemmas.List.Concat.{flat_map-cons}
use Rattle.fcg_grammar.specs.Rows.{rows}
use Rattle.fcg_grammar.proofs.LawLemmas.{bind_ok}
use Rattle.fcg_grammar.proofs.Standing.{Stands, Stands-none, Stands-then, Stands-back, ok_is}

module _ {X S : Type 0} (fits : S → X → S → Type 0) where
  -- from state to state, row by row
  abbrev pub Linked : S → List X → S → Type 0
  Linked s [] end = s ≡ end
  Linked s (x ∷ xs) end = (next : S) × fits s x next × Linked next xs end

module _ {X S E : Type 0} (bytes : List ℕ) (place : S → ℕ) (spell : X → List ℕ) (fits : S → X → S → Type 0) (read : ℕ → S → Result (X × S) E) where
  pub record FoundRow (s : S) (x : X) (next : S) : Type 0 where
    pub stands : Stands bytes (place s) (spell x) (place next)
    pub fit : fits s x next

  pub record FoundRows (n : ℕ) (s : S) (xs : List X) (end : S) : Type 0 where
    pub stands : Stands bytes (place s) (flat_map spell xs) (place end)
    pub many : length xs ≡ n
    pub fit : Linked fits s xs end

  pub rows_found : ((k : ℕ) (s : S) (x : X × S) → place s ≤ length bytes → read k s ≡ Ok x → FoundRow s x.0 x.1)
      → (n k : ℕ) (s : S) (x : List X × S) → place s ≤ length bytes → rows read n k s ≡ Ok x → FoundRows n s x.0 x.1
  rows_found each zero k s x le e =
      subst (λ (y : List X × S). FoundRows 0 s y.0 y.1) (ok_is ([], s) x e) (record { stands = Stands-none bytes (place s) le; many = refl; fit = refl })
  rows_found each (suc n) k s x le e =
      let a = bind_ok (read k s) _ x e in
      let b = bind_ok (rows read n (k + 1) a.0.1) _ x a.2 in
      let first = each k s a.0 le a.1 in
      let others = rows_found each n (k + 1) a.0.1 b.0 first.stands.within b.1 in
      let made : List X × S = (a.0.0 ∷ b.0.0, b.0.1) in
      subst (λ (y : List X × S). FoundRows (suc n) s y.0 y.1) (ok_is made x b.2) (record {
        stands = rw flat_map-cons (Stands-then first.stands others.stands);
        many = ap suc others.many;
        fit = (a.0.1, first.fit, others.fit);
      })

  pub rows_only : ((k : ℕ) (s : S) (x : X) (next : S) (rest : List ℕ) (after : ℕ) → fits s x next → Stands bytes (place s) (spell x ++ rest) after → (read k s ≡ Ok (x, next)) × (place next ≡ place s + length (spell x)))
      → (k : ℕ) (s : S) (xs : List X) (end : S) (rest : List ℕ) (after : ℕ) → Linked fits s xs end → Stands bytes (place s) (flat_map spell xs ++ rest) after → (rows read (length xs) k s ≡ Ok (xs, end)) × Stands bytes (place end) rest after
  rows_only each k s [] end rest after l t = (ap (λ (z : S). Ok ([], z)) l, subst (λ (z : S). Stands bytes (place z) rest after) l t)
  rows_only each k s (x ∷ xs) end rest after l t =
      let regrouped : flat_map spell (x ∷ xs) ++ rest ≡ spell x ++ (flat_map spell xs ++ rest) = ap (λ (m : List ℕ). m ++ rest) (flat_map-cons spell x xs) ∙ append_assoc (spell x) (flat_map spell xs) rest in
      let here = subst (λ (m : List ℕ). Stands bytes (place s) m after) regrouped t in
      let first = each k s x l.0 (flat_map spell xs ++ rest) after l.1 here in
      let there = subst (λ (n : ℕ). Stands bytes n (flat_map spell xs ++ rest) after) (sym first.1) (Stands-back (spell x) (flat_map spell xs ++ rest) here) in
      let others = rows_only each (k + 1) l.0 xs end rest after l.2 there in
      (rw (first.0, others.0) refl, others.1)

-- where the next row stands is all that leads on
module _ {X : Type 0} (spell : X → List ℕ) (Fits : X → Type 0) where
  pub record Plain (at : ℕ) (x : X) (next : ℕ) : Type 0 where
    pub fit : Fits x
    pub ends : next ≡ at + length (spell x)

  pub plain_all : (at : ℕ) (xs : List X) (end : ℕ) → Linked Plain at xs end → AllByRecursion Fits xs
  plain_all at [] end l = tt
  plain_all at (x ∷ xs) end l = (l.1.fit, plain_all l.0 xs end l.2)

  pub all_plain : (at : ℕ) (xs : List X) → AllByRecursion Fits xs → (end : ℕ) × Linked Plain at xs end
  all_plain at [] all = (at, refl)
  all_plain at (x ∷ xs) all = let others = all_plain (at + length (spell x)) xs all.1 in (others.0, (at + length (spell x), record { fit = all.0; ends = refl }, others.1))
