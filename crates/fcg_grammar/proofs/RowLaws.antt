-- Rows that stand in a file: what is read is spelled so, and what is spelled so is read.
use Rattle.std.proofs.Common.{◌≡◌, ℕ, zero, suc, ◌+◌, ◌≤◌, List, [], ◌∷◌, ◌++◌, length, refl, ap, subst, ◌∙◌, append_assoc}
use Rattle.std.specs.Prelude.{Result, Ok}
use Rattle.std.specs.List.{flat_map, AllByRecursion, AllZip}
use Rattle.std.proofs.lemmas.List.Concat.{flat_map-cons}
use Rattle.fcg_grammar.specs.Rows.{rows}
use Rattle.fcg_grammar.proofs.LawLemmas.{bind_ok}
use Rattle.fcg_grammar.proofs.Standing.{Stands, Stands-none, Stands-then, Stands-back, ok_is}

module _ {C X E : Type 0} (bytes : List ℕ) (spell : C → List ℕ) (means : C → X → Type 0) (read : ℕ → ℕ → Result (X × ℕ) E) where
  pub record FoundRow (at : ℕ) (x : X) (after : ℕ) : Type 0 where
    pub row : C
    pub stands : Stands bytes at (spell row) after
    pub meant : means row x

  abbrev pub FindsRow : Type 0
  FindsRow = (k at : ℕ) (x : X × ℕ) → at ≤ length bytes → read k at ≡ Ok x → FoundRow at x.0 x.1

  pub record FoundRows (n at : ℕ) (xs : List X) (after : ℕ) : Type 0 where
    pub table : List C
    pub stands : Stands bytes at (flat_map spell table) after
    pub many : length table ≡ n
    pub meant : AllZip means table xs

  pub rows_found : FindsRow → (n k at : ℕ) (x : List X × ℕ) → at ≤ length bytes → rows read n k at ≡ Ok x → FoundRows n at x.0 x.1
  rows_found each zero k at x le e =
      subst (λ (y : List X × ℕ). FoundRows 0 at y.0 y.1) (ok_is ([], at) x e) (record { table = []; stands = Stands-none bytes at le; many = refl; meant = tt })
  rows_found each (suc n) k at x le e =
      let a = bind_ok (read k at) _ x e in
      let b = bind_ok (rows read n (k + 1) a.0.1) _ x a.2 in
      let first = each k at a.0 le a.1 in
      let others = rows_found each n (k + 1) a.0.1 b.0 first.stands.within b.1 in
      let made : List X × ℕ = (a.0.0 ∷ b.0.0, b.0.1) in
      subst (λ (y : List X × ℕ). FoundRows (suc n) at y.0 y.1) (ok_is made x b.2) (record {
        table = first.row ∷ others.table;
        stands = rw flat_map-cons (Stands-then first.stands others.stands);
        many = ap suc others.many;
        meant = (first.meant, others.meant);
      })

  pub record ReadRow (k at : ℕ) (c : C) : Type 0 where
    pub value : X
    pub read_is : read k at ≡ Ok (value, at + length (spell c))
    pub meant : means c value

  abbrev pub ReadsRow : (C → Type 0) → Type 0
  ReadsRow P = (k at : ℕ) (c : C) (rest : List ℕ) (after : ℕ) → P c → Stands bytes at (spell c ++ rest) after → ReadRow k at c

  pub record ReadRows (k at : ℕ) (cs : List C) (rest : List ℕ) (after : ℕ) : Type 0 where
    pub values : List X
    pub end : ℕ
    pub read_is : rows read (length cs) k at ≡ Ok (values, end)
    pub meant : AllZip means cs values
    pub stands : Stands bytes end rest after

  pub rows_only : (P : C → Type 0) → ReadsRow P → (k at : ℕ) (cs : List C) (rest : List ℕ) (after : ℕ) → AllByRecursion P cs → Stands bytes at (flat_map spell cs ++ rest) after → ReadRows k at cs rest after
  rows_only P each k at [] rest after fit s = record { values = []; end = at; read_is = refl; meant = tt; stands = s }
  rows_only P each k at (c ∷ cs) rest after fit s =
      let regrouped : flat_map spell (c ∷ cs) ++ rest ≡ spell c ++ (flat_map spell cs ++ rest) = ap (λ (l : List ℕ). l ++ rest) (flat_map-cons spell c cs) ∙ append_assoc (spell c) (flat_map spell cs) rest in
      let here = subst (λ (l : List ℕ). Stands bytes at l after) regrouped s in
      let first = each k at c (flat_map spell cs ++ rest) after fit.0 here in
      let others = rows_only P each (k + 1) (at + length (spell c)) cs rest after fit.1 (Stands-back (spell c) (flat_map spell cs ++ rest) here) in
      record {
        values = first.value ∷ others.values;
        end = others.end;
        read_is = rw (first.read_is, others.read_is) refl;
        meant = (first.meant, others.meant);
        stands = others.stands;
      }
