-- Names of types: the type's own, its superclass's, its interfaces'. What is read is spelled so, and back.
use Rattle.std.proofs.Common.{◌≡◌, ℕ, ◌+◌, ◌^◌, ◌≤◌, ◌<◌, false, eqb, List, [], ◌∷◌, ◌++◌, length, Option, Some, None, refl, sym, subst, ◌∙◌, inl, inr, arith}
use Rattle.std.specs.Prelude.{Ok}
use Rattle.std.specs.List.{flat_map, AllByRecursion, AllZip}
use Rattle.std.proofs.lemmas.Bool.{eqb-true}
use Rattle.std.proofs.lemmas.Bool.Decides.{nat_tests}
use Rattle.fcg_grammar.specs.Spell.{IsBytes, u2}
use Rattle.fcg_grammar.proofs.LawLemmas.{bind_ok, chosen}
use Rattle.fcg_grammar.proofs.Standing.{Stands, Stands-then, ok_is}
use Rattle.fcg_grammar.proofs.RowLaws.{FoundRow, ReadRow, rows_found, rows_only}
use Rattle.fcg_classfile.specs.ClassFile.{Constant, Utf8, Named}
use Rattle.fcg_classfile.specs.Constants.{NamesUtf8}
use Rattle.fcg_classfile.specs.Reads.{NamesType, NamesSuper}
use Rattle.fcg_classfile.specs.Breaks.Number.{u2_at}
use Rattle.fcg_classfile.specs.Breaks.Pool.{Entries}
use Rattle.fcg_classfile.specs.Breaks.Class.{type_at, super_at, interface_at, interfaces_at}
use Rattle.fcg_classfile.proofs.Places.{u2_found, u2_only}
use Rattle.fcg_classfile.specs.Tables.{Holds}
use Rattle.fcg_classfile.specs.Breaks.Names.{type_of}
use Rattle.fcg_classfile.proofs.TypeNameLaws.{type_of_found, type_of_only}

above_zero : (a b : ℕ) → a ≡ b → eqb a 0 ≡ false → 0 < b
above_zero a b e n = grind (arith, nat_tests)

-- an index names at most one type
abbrev some_utf8 : List ℕ → Option Constant
some_utf8 x = Some (Utf8 x)

abbrev some_class : ℕ → Option Constant
some_class x = Some (Named 7 x)

pub utf8_one : (cs : List Constant) (i : ℕ) (x y : List ℕ) → NamesUtf8 cs i x → NamesUtf8 cs i y → x ≡ y
utf8_one cs i x y p q = let same : some_utf8 x ≡ some_utf8 y = sym p ∙ q in cc

type_one : (cs : List Constant) (i : ℕ) (x y : List ℕ) → NamesType cs i x → NamesType cs i y → x ≡ y
type_one cs i x y p q =
    let same : some_class p.1.0 ≡ some_class q.1.0 = sym p.1.1 ∙ q.1.1 in
    let index : p.1.0 ≡ q.1.0 = cc in
    utf8_one cs p.1.0 x y p.1.2 (subst (λ (j : ℕ). NamesUtf8 cs j y) (sym index) q.1.2)

types_one : (cs : List Constant) (is : List ℕ) (xs ys : List (List ℕ)) → AllZip (NamesType cs) is xs → AllZip (NamesType cs) is ys → xs ≡ ys
types_one cs [] [] [] p q = refl
types_one cs [] [] (y ∷ ys) p q = absurd q
types_one cs [] (x ∷ xs) ys p q = absurd p
types_one cs (i ∷ is) [] ys p q = absurd p
types_one cs (i ∷ is) (x ∷ xs) [] p q = absurd q
types_one cs (i ∷ is) (x ∷ xs) (y ∷ ys) p q =
    let first = type_one cs i x y p.0 q.0 in
    let others = types_one cs is xs ys p.1 q.1 in
    cc

each_named : (cs : List Constant) (is : List ℕ) (xs : List (List ℕ)) → AllZip (NamesType cs) is xs → AllByRecursion (λ i. (name : List ℕ) × NamesType cs i name) is
each_named cs [] [] p = tt
each_named cs [] (x ∷ xs) p = absurd p
each_named cs (i ∷ is) [] p = absurd p
each_named cs (i ∷ is) (x ∷ xs) p = ((x, p.0), each_named cs is xs p.1)

module _ (pool : Entries) (fits : IsBytes pool.bytes) (constants : List Constant) (holds : Holds pool constants) where
  pub record FoundType (at : ℕ) (name : List ℕ) : Type 0 where
    pub index : ℕ
    pub read_is : u2_at pool.bytes at 0 ≡ Ok index
    pub stands : Stands pool.bytes at (u2 index) (at + 2)
    pub named : NamesType constants index name

  pub type_found : (at : ℕ) (name : List ℕ) → type_at pool at ≡ Ok name → FoundType at name
  unfolding type_at
  type_found at name e =
      let a = bind_ok (u2_at pool.bytes at 0) (type_of pool at) name e in
      let n = u2_found pool.bytes at 0 a.0 fits a.1 in
      let t = type_of_found pool constants holds at a.0 name a.2 in
      record { index = a.0; read_is = a.1; stands = n.0; named = (n.1, t.0, t.1) }

  pub type_only : (at index : ℕ) (name rest : List ℕ) (after : ℕ) → NamesType constants index name → Stands pool.bytes at (u2 index ++ rest) after → (type_at pool at ≡ Ok name) × Stands pool.bytes (at + 2) rest after
  unfolding type_at
  type_only at index name rest after is s =
      let n = u2_only pool.bytes at 0 index rest after is.0 s in
      (rw n.0 (type_of_only pool constants holds at index name is.1 is.2), n.1)

  pub record FoundSuper (at : ℕ) (name : Option (List ℕ)) : Type 0 where
    pub index : ℕ
    pub stands : Stands pool.bytes at (u2 index) (at + 2)
    pub named : NamesSuper constants index name

  pub super_found : (at : ℕ) (name : Option (List ℕ)) → super_at pool at ≡ Ok name → FoundSuper at name
  unfolding super_at
  super_found at name e =
      let a = bind_ok (u2_at pool.bytes at 0) _ name e in
      let n = u2_found pool.bytes at 0 a.0 fits a.1 in
      elim (chosen (eqb a.0 0) _ _ _ a.2) [
        | inl is ↦ subst (λ (x : Option (List ℕ)). FoundSuper at x) (ok_is None name is.1) (record { index = a.0; stands = n.0; named = eqb-true _ _ is.0 })
        | inr other ↦ (
            let b = bind_ok (type_at pool at) _ name other.1 in
            let f = type_found at b.0 b.1 in
            let same : a.0 ≡ f.index = ok_is a.0 f.index (sym a.1 ∙ f.read_is) in
            let some : 0 < f.index = above_zero a.0 f.index same other.0 in
            subst (λ (x : Option (List ℕ)). FoundSuper at x) (ok_is (Some b.0) name b.2) (record { index = f.index; stands = f.stands; named = (some, f.named) })
            )
      ]

  pub super_only : (at index : ℕ) (name : Option (List ℕ)) (rest : List ℕ) (after : ℕ) → NamesSuper constants index name → Stands pool.bytes at (u2 index ++ rest) after → (super_at pool at ≡ Ok name) × Stands pool.bytes (at + 2) rest after
  unfolding super_at
  super_only at index None rest after is s =
      let few : index < 2 ^ 16 = omega arith in
      let n = u2_only pool.bytes at 0 index rest after few s in
      (rw (n.0, is) refl, n.1)
  super_only at index (Some name) rest after is s =
      let n = u2_only pool.bytes at 0 index rest after is.1.0 s in
      let some : eqb index 0 ≡ false = grind (arith, nat_tests) in
      let read = type_only at index name rest after is.1 s in
      (rw (n.0, some, read.0) refl, n.1)

  abbrev Names : ℕ → List ℕ → Type 0
  Names index name = NamesType constants index name

  interface_found : (k at : ℕ) (x : List ℕ × ℕ) → at ≤ length pool.bytes → interface_at pool k at ≡ Ok x → FoundRow pool.bytes u2 Names (interface_at pool) at x.0 x.1
  unfolding interface_at
  interface_found k at x le e =
      let a = bind_ok (type_at pool at) _ x e in
      let f = type_found at a.0 a.1 in
      let made : List ℕ × ℕ = (a.0, at + 2) in
      subst (λ (y : List ℕ × ℕ). FoundRow pool.bytes u2 Names (interface_at pool) at y.0 y.1) (ok_is made x a.2) (record { row = f.index; stands = f.stands; meant = f.named })

  interface_only : (k at index : ℕ) (rest : List ℕ) (after : ℕ) → ((name : List ℕ) × Names index name) → Stands pool.bytes at (u2 index ++ rest) after → ReadRow pool.bytes u2 Names (interface_at pool) k at index
  unfolding interface_at
  interface_only k at index rest after is s =
      let n = type_only at index is.0 rest after is.1 s in
      record { value = is.0; read_is = rw n.0 refl; meant = is.1 }

  pub record FoundInterfaces (at : ℕ) (names : List (List ℕ)) (after : ℕ) : Type 0 where
    pub table : List ℕ
    pub stands : Stands pool.bytes at (u2 (length table) ++ flat_map u2 table) after
    pub few : length table < 2 ^ 16
    pub named : AllZip (NamesType constants) table names

  pub interfaces_found : (at : ℕ) (x : List (List ℕ) × ℕ) → interfaces_at pool at ≡ Ok x → FoundInterfaces at x.0 x.1
  unfolding interfaces_at
  interfaces_found at x e =
      let a = bind_ok (u2_at pool.bytes at 0) _ x e in
      let n = u2_found pool.bytes at 0 a.0 fits a.1 in
      let r = rows_found pool.bytes u2 Names (interface_at pool) interface_found a.0 0 (at + 2) x n.0.within a.2 in
      record {
        table = r.table;
        stands = subst (λ (k : ℕ). Stands pool.bytes at (u2 k ++ flat_map u2 r.table) x.1) (sym r.many) (Stands-then n.0 r.stands);
        few = omega (arith, r.many, n.1);
        named = r.meant;
      }

  pub record ReadInterfaces (at : ℕ) (names : List (List ℕ)) (rest : List ℕ) (after : ℕ) : Type 0 where
    pub end : ℕ
    pub read_is : interfaces_at pool at ≡ Ok (names, end)
    pub stands : Stands pool.bytes end rest after

  pub interfaces_only : (at : ℕ) (table : List ℕ) (names : List (List ℕ)) (rest : List ℕ) (after : ℕ) → length table < 2 ^ 16 → AllZip (NamesType constants) table names → Stands pool.bytes at (u2 (length table) ++ (flat_map u2 table ++ rest)) after
      → ReadInterfaces at names rest after
  unfolding interfaces_at
  interfaces_only at table names rest after few named s =
      let n = u2_only pool.bytes at 0 (length table) (flat_map u2 table ++ rest) after few s in
      let r = rows_only pool.bytes u2 Names (interface_at pool) (λ index. (name : List ℕ) × Names index name) interface_only 0 (at + 2) table rest after (each_named constants table names named) n.1 in
      let same : r.values ≡ names = types_one constants table r.values names r.meant named in
      record { end = r.end; read_is = rw (n.0, r.read_is, same) refl; stands = r.stands }
