-- What the tag of a constant tells that stands in the file.
use Rattle.std.proofs.Common.{◌≡◌, ℕ, ◌+◌, ◌≤◌, List, [], ◌∷◌, length, get_or, Bool, true, false, ◌==◌, refl, sym, arith}
use Rattle.std.specs.Prelude.{Option, Some, None, Ok, Err, if◌then◌else◌}
use Rattle.std.proofs.lemmas.Bool.Decides.{Decides-eqb, nat_tests}
use Rattle.fcg_grammar.specs.Number.{u2, part}
use Rattle.fcg_classfile.specs.declared.fault.PoolRule.TheVariants.{WrongKind}
use Rattle.fcg_classfile.specs.ClassFile.{Shape, Text, Bytes, One, Two, Kinded, is_one_of, shape_of, tag_of}
use Rattle.fcg_classfile.specs.Breaks.Pool.{text_in, name_in, pair_in}
use Rattle.fcg_pool.specs.Internal.ConstantAt.{shaped_in, constant_in, ShapeLies, Lies}

-- ---- the tags of two shapes

chosen : (text number wide one two kinded : Bool) → Option Shape
chosen text number wide one two kinded =
    if text then Some Text
    else (if number then Some (Bytes 4)
    else (if wide then Some (Bytes 8)
    else (if one then Some One
    else (if two then Some Two
    else (if kinded then Some Kinded else None)))))

only_text : (a b c d e f : Bool) → chosen a b c d e f ≡ Some Text → a ≡ true
unfolding chosen
only_text true b c d e f is = refl
only_text false true c d e f is = absurd cc
only_text false false true d e f is = absurd cc
only_text false false false true e f is = absurd cc
only_text false false false false true f is = absurd cc
only_text false false false false false true is = absurd cc
only_text false false false false false false is = absurd cc

only_kinded : (a b c d e f : Bool) → chosen a b c d e f ≡ Some Kinded → f ≡ true
unfolding chosen
only_kinded true b c d e f is = absurd cc
only_kinded false true c d e f is = absurd cc
only_kinded false false true d e f is = absurd cc
only_kinded false false false true e f is = absurd cc
only_kinded false false false false true f is = absurd cc
only_kinded false false false false false true is = refl
only_kinded false false false false false false is = absurd cc

module _ (tag : ℕ) where
  shape_is : shape_of tag ≡ chosen (tag == 1) (is_one_of (3 ∷ 4 ∷ []) tag) (is_one_of (5 ∷ 6 ∷ []) tag) (is_one_of (7 ∷ 8 ∷ 16 ∷ 19 ∷ 20 ∷ []) tag) (is_one_of (9 ∷ 10 ∷ 11 ∷ 12 ∷ 17 ∷ 18 ∷ []) tag) (tag == 15)
  unfolding chosen
  shape_is = refl

  text_tag : shape_of tag ≡ Some Text → tag ≡ 1
  text_tag is = (Decides-eqb tag 1).0 (only_text _ _ _ _ _ _ (rw shape_is at is))

  kinded_tag : shape_of tag ≡ Some Kinded → tag ≡ 15
  kinded_tag is = (Decides-eqb tag 15).0 (only_kinded _ _ _ _ _ _ (rw shape_is at is))

module _ (bytes : List ℕ) (at : ℕ) where
  -- ---- by the shape

  tag_in : (tag : ℕ) (shape : Option Shape) → shape_of tag ≡ shape → ShapeLies bytes at shape → tag_of (shaped_in bytes at tag shape) ≡ tag
  unfolding shaped_in ShapeLies
  tag_in tag None is lies = absurd lies
  tag_in tag (Some Text) is lies = sym (text_tag tag is)
  tag_in tag (Some (Bytes n)) is lies = refl
  tag_in tag (Some One) is lies = refl
  tag_in tag (Some Two) is lies = refl
  tag_in tag (Some Kinded) is lies = sym (kinded_tag tag is)

  no_text_in : (tag : ℕ) (shape : Option Shape) → shape_of tag ≡ shape → ShapeLies bytes at shape → (tag == 1) ≡ false → text_in (shaped_in bytes at tag shape) ≡ Err WrongKind
  unfolding shaped_in ShapeLies
  no_text_in tag None is lies other = absurd lies
  no_text_in tag (Some Text) is lies other = (let same : (tag == 1) ≡ true = (Decides-eqb tag 1).1 (text_tag tag is) in absurd cc)
  no_text_in tag (Some (Bytes n)) is lies other = refl
  no_text_in tag (Some One) is lies other = refl
  no_text_in tag (Some Two) is lies other = refl
  no_text_in tag (Some Kinded) is lies other = refl

  no_name_in : (tag : ℕ) (shape : Option Shape) → ShapeLies bytes at shape → (tag == 7) ≡ false → name_in (shaped_in bytes at tag shape) ≡ Err WrongKind
  unfolding shaped_in ShapeLies
  no_name_in tag None lies other = absurd lies
  no_name_in tag (Some Text) lies other = refl
  no_name_in tag (Some (Bytes n)) lies other = refl
  no_name_in tag (Some One) lies other = rw other refl
  no_name_in tag (Some Two) lies other = refl
  no_name_in tag (Some Kinded) lies other = refl

  no_pair_in : (tags : List ℕ) (tag : ℕ) (shape : Option Shape) → ShapeLies bytes at shape → is_one_of tags tag ≡ false → pair_in tags (shaped_in bytes at tag shape) ≡ Err WrongKind
  unfolding shaped_in ShapeLies
  no_pair_in tags tag None lies other = absurd lies
  no_pair_in tags tag (Some Text) lies other = refl
  no_pair_in tags tag (Some (Bytes n)) lies other = refl
  no_pair_in tags tag (Some One) lies other = refl
  no_pair_in tags tag (Some Two) lies other = rw other refl
  no_pair_in tags tag (Some Kinded) lies other = refl

  -- ---- of what stands there

  pub tag_stands : Lies bytes at → tag_of (constant_in bytes at) ≡ get_or bytes at 0
  unfolding constant_in
  tag_stands lies = tag_in (get_or bytes at 0) (shape_of (get_or bytes at 0)) refl lies.rest

  pub text_stands : Lies bytes at → get_or bytes at 0 ≡ 1 → text_in (constant_in bytes at) ≡ Ok (part bytes (at + 3) (u2 bytes (at + 1)))
  unfolding constant_in shaped_in
  text_stands lies is = rw is refl

  pub text_room : Lies bytes at → get_or bytes at 0 ≡ 1 → at + 1 + 2 ≤ length bytes
  unfolding ShapeLies
  text_room lies is = (let rest = rw is at lies.rest in omega (arith, rest.0))

  pub text_inside : Lies bytes at → get_or bytes at 0 ≡ 1 → at + 3 + u2 bytes (at + 1) ≤ length bytes
  unfolding ShapeLies
  text_inside lies is = (rw is at lies.rest).1

  pub no_text : Lies bytes at → (get_or bytes at 0 == 1) ≡ false → text_in (constant_in bytes at) ≡ Err WrongKind
  unfolding constant_in
  no_text lies other = no_text_in (get_or bytes at 0) (shape_of (get_or bytes at 0)) refl lies.rest other

  pub name_stands : Lies bytes at → get_or bytes at 0 ≡ 7 → name_in (constant_in bytes at) ≡ Ok (u2 bytes (at + 1))
  unfolding constant_in shaped_in
  name_stands lies is = rw is refl

  pub name_room : Lies bytes at → get_or bytes at 0 ≡ 7 → at + 1 + 2 ≤ length bytes
  unfolding ShapeLies
  name_room lies is = (let rest = rw is at lies.rest in omega (arith, rest))

  pub no_name : Lies bytes at → (get_or bytes at 0 ≡ 7 → ⊥) → name_in (constant_in bytes at) ≡ Err WrongKind
  unfolding constant_in
  no_name lies other = no_name_in (get_or bytes at 0) (shape_of (get_or bytes at 0)) lies.rest (not_seven (get_or bytes at 0) other)
    where
      not_seven : (n : ℕ) → (n ≡ 7 → ⊥) → (n == 7) ≡ false
      not_seven n other = grind (arith, nat_tests)

  pub no_pair : (tags : List ℕ) → Lies bytes at → is_one_of tags (get_or bytes at 0) ≡ false → pair_in tags (constant_in bytes at) ≡ Err WrongKind
  unfolding constant_in
  no_pair tags lies other = no_pair_in tags (get_or bytes at 0) (shape_of (get_or bytes at 0)) lies.rest other
