-- The constants of a pool: what is read is spelled so, and what is spelled so is read.
use Rattle.std.proofs.Common.{◌≡◌, ℕ, ◌+◌, ◌^◌, ◌<◌, Bool, true, false, cond, eqb, List, [], ◌∷◌, ◌++◌, length, Option, Some, None, refl, sym, ap, subst, ◌∙◌, arith}
use Rattle.std.specs.Prelude.{Ok}
use Rattle.std.proofs.lemmas.Bool.{eqb-true}
use Rattle.fcg_grammar.specs.Spell.{IsBytes, u2}
use Rattle.fcg_grammar.proofs.LawLemmas.{bind_ok}
use Rattle.fcg_grammar.proofs.Standing.{Stands, Stands-then, Stands-to, ok_is}
use Rattle.fcg_classfile.specs.ClassFile.{Shape, Text, Bytes, One, Two, Kinded, is_one_of, shape_of, Constant, Utf8, Plain, Named, Pair, Handle, constant}
use Rattle.fcg_classfile.specs.Reads.{Fits}
use Rattle.fcg_classfile.specs.Breaks.Groups.{bad_group}
use Rattle.fcg_classfile.specs.Breaks.Pool.{u1_at, u2_at, part_at, grouped, shaped_at, constant_read}
use Rattle.fcg_classfile.proofs.GroupLaws.{groups_found, groups_only}
use Rattle.fcg_classfile.proofs.PoolPlaces.{u1_found, u1_only, u2_found, u2_only, part_found, part_only}

grouped_ok : (o : Option ℕ) (index : ℕ) (u : Unit {0}) → grouped o index ≡ Ok u → o ≡ None
grouped_ok None index u e = refl
grouped_ok (Some at) index u e = absurd cc

-- places within a constant
two : (at : ℕ) → at + 1 + 1 ≡ at + 2
two at = omega arith

three : (at : ℕ) → at + 1 + 2 ≡ at + 3
three at = omega arith

four : (at : ℕ) → at + 2 + 2 ≡ at + 4
four at = omega arith

five : (at : ℕ) → at + 3 + 2 ≡ at + 5
five at = omega arith

-- the tag, by what follows it
text_by : (a b c d f g : Bool) → cond a (Some Text) (cond b (Some (Bytes 4)) (cond c (Some (Bytes 8)) (cond d (Some One) (cond f (Some Two) (cond g (Some Kinded) None))))) ≡ Some Text → a ≡ true
text_by true b c d f g e = refl
text_by false true c d f g e = absurd cc
text_by false false true d f g e = absurd cc
text_by false false false true f g e = absurd cc
text_by false false false false true g e = absurd cc
text_by false false false false false true e = absurd cc
text_by false false false false false false e = absurd cc

text_tag : (tag : ℕ) → shape_of tag ≡ Some Text → tag ≡ 1
text_tag tag e = eqb-true _ _ (text_by (eqb tag 1) (is_one_of (3 ∷ 4 ∷ []) tag) (is_one_of (5 ∷ 6 ∷ []) tag) (is_one_of (7 ∷ 8 ∷ 16 ∷ 19 ∷ 20 ∷ []) tag) (is_one_of (9 ∷ 10 ∷ 11 ∷ 12 ∷ 17 ∷ 18 ∷ []) tag) (eqb tag 15) e)

kinded_by : (a b c d f g : Bool) → cond a (Some Text) (cond b (Some (Bytes 4)) (cond c (Some (Bytes 8)) (cond d (Some One) (cond f (Some Two) (cond g (Some Kinded) None))))) ≡ Some Kinded → g ≡ true
kinded_by true b c d f g e = absurd cc
kinded_by false true c d f g e = absurd cc
kinded_by false false true d f g e = absurd cc
kinded_by false false false true f g e = absurd cc
kinded_by false false false false true g e = absurd cc
kinded_by false false false false false true e = refl
kinded_by false false false false false false e = absurd cc

kinded_tag : (tag : ℕ) → shape_of tag ≡ Some Kinded → tag ≡ 15
kinded_tag tag e = eqb-true _ _ (kinded_by (eqb tag 1) (is_one_of (3 ∷ 4 ∷ []) tag) (is_one_of (5 ∷ 6 ∷ []) tag) (is_one_of (7 ∷ 8 ∷ 16 ∷ 19 ∷ 20 ∷ []) tag) (is_one_of (9 ∷ 10 ∷ 11 ∷ 12 ∷ 17 ∷ 18 ∷ []) tag) (eqb tag 15) e)

module _ (bytes : List ℕ) where
  pub record FoundConstant (at : ℕ) (c : Constant) (after : ℕ) : Type 0 where
    pub stands : Stands bytes at (constant c) after
    pub fits : Fits c

  shaped_found : IsBytes bytes → (index at tag : ℕ) (shape : Option Shape) (x : Constant × ℕ) → shape_of tag ≡ shape → Stands bytes at (tag ∷ []) (at + 1) → shaped_at bytes index at tag shape ≡ Ok x → FoundConstant at x.0 x.1
  unfolding shaped_at
  shaped_found fits index at tag None x is s e = absurd cc
  shaped_found fits index at tag (Some Text) x is s e =
      let a = bind_ok (u2_at bytes (at + 1)) _ x e in
      let b = bind_ok (part_at bytes (at + 3) a.0) _ x a.2 in
      let c = bind_ok (grouped (bad_group (at + 3) b.0) index) _ x b.2 in
      let n = u2_found bytes (at + 1) a.0 fits a.1 in
      let text = part_found bytes (at + 3) a.0 b.0 b.1 in
      let groups = groups_found (at + 3) b.0 (grouped_ok _ index c.0 c.1) in
      let tail = subst (λ (n : ℕ). Stands bytes (at + 1) (u2 n ++ b.0) (at + 3 + a.0)) (sym text.1) (Stands-then (Stands-to (at + 3) (three at) n.0) text.0) in
      let first = subst (λ (t : ℕ). Stands bytes at (t ∷ []) (at + 1)) (text_tag tag is) s in
      let few : length b.0 < 2 ^ 16 = omega (arith, text.1, n.1) in
      subst (λ (y : Constant × ℕ). FoundConstant at y.0 y.1) (ok_is (Utf8 b.0, at + 3 + a.0) x c.2) (record { stands = Stands-then first tail; fits = (few, groups) })
  shaped_found fits index at tag (Some (Bytes n)) x is s e =
      let a = bind_ok (part_at bytes (at + 1) n) _ x e in
      let text = part_found bytes (at + 1) n a.0 a.1 in
      let shape : shape_of tag ≡ Some (Bytes (length a.0)) = is ∙ ap (λ (k : ℕ). Some (Bytes k)) (sym text.1) in
      subst (λ (y : Constant × ℕ). FoundConstant at y.0 y.1) (ok_is (Plain tag a.0, at + 1 + n) x a.2) (record { stands = Stands-then s text.0; fits = shape })
  shaped_found fits index at tag (Some One) x is s e =
      let a = bind_ok (u2_at bytes (at + 1)) _ x e in
      let i = u2_found bytes (at + 1) a.0 fits a.1 in
      subst (λ (y : Constant × ℕ). FoundConstant at y.0 y.1) (ok_is (Named tag a.0, at + 3) x a.2) (record { stands = Stands-then s (Stands-to (at + 3) (three at) i.0); fits = (is, i.1) })
  shaped_found fits index at tag (Some Two) x is s e =
      let a = bind_ok (u2_at bytes (at + 1)) _ x e in
      let b = bind_ok (u2_at bytes (at + 3)) _ x a.2 in
      let i = u2_found bytes (at + 1) a.0 fits a.1 in
      let j = u2_found bytes (at + 3) b.0 fits b.1 in
      subst (λ (y : Constant × ℕ). FoundConstant at y.0 y.1) (ok_is (Pair tag a.0 b.0, at + 5) x b.2) (record { stands = Stands-then s (Stands-then (Stands-to (at + 3) (three at) i.0) (Stands-to (at + 5) (five at) j.0)); fits = (is, i.1, j.1) })
  shaped_found fits index at tag (Some Kinded) x is s e =
      let a = bind_ok (u1_at bytes (at + 1)) _ x e in
      let b = bind_ok (u2_at bytes (at + 2)) _ x a.2 in
      let kind = Stands-to (at + 2) (two at) (u1_found bytes (at + 1) a.0 a.1) in
      let i = u2_found bytes (at + 2) b.0 fits b.1 in
      let first = subst (λ (t : ℕ). Stands bytes at (t ∷ []) (at + 1)) (kinded_tag tag is) s in
      subst (λ (y : Constant × ℕ). FoundConstant at y.0 y.1) (ok_is (Handle a.0 b.0, at + 4) x b.2) (record { stands = Stands-then first (Stands-then kind (Stands-to (at + 4) (four at) i.0)); fits = i.1 })

  pub constant_found : IsBytes bytes → (index at : ℕ) (x : Constant × ℕ) → constant_read bytes index at ≡ Ok x → FoundConstant at x.0 x.1
  unfolding constant_read
  constant_found fits index at x e =
      let a = bind_ok (u1_at bytes at) _ x e in
      shaped_found fits index at a.0 (shape_of a.0) x refl (u1_found bytes at a.0 a.1) a.2

  -- ---- what is spelled so is read
  to : (a b : ℕ) (rest : List ℕ) (after : ℕ) → a ≡ b → Stands bytes a rest after → Stands bytes b rest after
  to a b rest after e s = subst (λ (n : ℕ). Stands bytes n rest after) e s

  pub constant_only : (index at : ℕ) (c : Constant) (rest : List ℕ) (after : ℕ) → Fits c → Stands bytes at (constant c ++ rest) after → constant_read bytes index at ≡ Ok (c, at + length (constant c))
  unfolding constant_read shaped_at
  constant_only index at (Utf8 text) rest after fits s =
      let tag = u1_only bytes at 1 (u2 (length text) ++ (text ++ rest)) after s in
      let n = u2_only bytes (at + 1) (length text) (text ++ rest) after fits.0 tag.1 in
      let t = part_only bytes (at + 3) text rest after (to (at + 1 + 2) (at + 3) (text ++ rest) after (three at) n.1) in
      let groups = groups_only (at + 3) text fits.1 in
      let ends : at + 3 + length text ≡ at + length (constant (Utf8 text)) = omega arith in
      rw (tag.0, n.0, t.0, groups, ends) refl
  constant_only index at (Plain tag b) rest after fits s =
      let first = u1_only bytes at tag (b ++ rest) after s in
      let t = part_only bytes (at + 1) b rest after first.1 in
      let ends : at + 1 + length b ≡ at + length (constant (Plain tag b)) = omega arith in
      rw (first.0, fits, t.0, ends) refl
  constant_only index at (Named tag i) rest after fits s =
      let first = u1_only bytes at tag (u2 i ++ rest) after s in
      let n = u2_only bytes (at + 1) i rest after fits.1 first.1 in
      rw (first.0, fits.0, n.0) refl
  constant_only index at (Pair tag i j) rest after fits s =
      let first = u1_only bytes at tag (u2 i ++ (u2 j ++ rest)) after s in
      let n = u2_only bytes (at + 1) i (u2 j ++ rest) after fits.1 first.1 in
      let m = u2_only bytes (at + 3) j rest after fits.2 (to (at + 1 + 2) (at + 3) (u2 j ++ rest) after (three at) n.1) in
      rw (first.0, fits.0, n.0, m.0) refl
  constant_only index at (Handle kind i) rest after fits s =
      let first = u1_only bytes at 15 (kind ∷ (u2 i ++ rest)) after s in
      let k = u1_only bytes (at + 1) kind (u2 i ++ rest) after first.1 in
      let n = u2_only bytes (at + 2) i rest after fits (to (at + 1 + 1) (at + 2) (u2 i ++ rest) after (two at) k.1) in
      rw (first.0, k.0, n.0) refl
