-- Coordinates: what is read is one, and each one is read. So a text is a coordinate, or has one fault.
use Rattle.std.proofs.Common.{◌≡◌, ℕ, ◌≤◌, ◌<◌, Bool, true, false, not, ◌&&◌, List, [], ◌∷◌, ◌++◌, length, refl, sym, ap, subst, ◌∙◌, arith}
use Rattle.std.specs.Prelude.{Option, Some, None, Result, Ok, Err, ◌==◌, nat_le}
use Rattle.std.specs.List.{position, list_any, AllByRecursion}
use Rattle.std.proofs.lemmas.Bool.{leb-true, le-leb, eqb-true, and_parts}
use Rattle.std.proofs.lemmas.Bool.Decides.{nat_tests}
use Rattle.fcg_grammar.specs.Reading.{unless_broken}
use Rattle.fcg_grammar.proofs.LawLemmas.{bind_ok, kept_ok}
use Rattle.fcg_grammar.proofs.Standing.{ok_is}
use Rattle.fcg_views.specs.declared.coordinate.CoordinateFault.{CoordinateFault}
use Rattle.fcg_views.specs.declared.coordinate.CoordinateFault.TheVariants.{Colons, EmptyPart, TooLong}
use Rattle.fcg_views.specs.Coordinate.{is_part_byte, IsPart, Parts, AreParts, joined, IsCoordinate, parted, found_or, is_colon, has_byte, is_bad, none_bad, coordinate_of, CoordinateVerdict, IsRead, IsBroken}
use Rattle.fcg_views.proofs.PartLaws.{Without, parted_found, parted_only, none_passes, none_found, any_none, none_any, all_front, all_back, all_both, all_by, all_of_two}

-- ---- single steps

pub found_ok : {A E : Type 0} (o : Option A) (f : E) (x : A) → found_or o f ≡ Ok x → o ≡ Some x
found_ok None f x e = absurd cc
found_ok (Some y) f x e = ap (λ z. Some z) (ok_is y x e)

none_bad_ok : (o : Option ℕ) (u : Unit {0}) → none_bad o ≡ Ok u → o ≡ None
none_bad_ok None u e = refl
none_bad_ok (Some at) u e = absurd cc

pub not_true : (b : Bool) → not b ≡ true → b ≡ false
not_true true e = absurd cc
not_true false e = refl

pub filled : (part : List ℕ) → has_byte part ≡ true → 0 < length part
filled [] e = absurd cc
filled (b ∷ bs) e = omega arith

pub is_filled : (part : List ℕ) → 0 < length part → has_byte part ≡ true
is_filled [] some = absurd (omega arith)
is_filled (b ∷ bs) some = grind (arith, nat_tests)

-- no byte of a part is a colon or a `$`
colon_none : is_part_byte 58 ≡ false
colon_none = refl

pub not_colon : (b : ℕ) → is_part_byte b ≡ true → (b == 58) ≡ false
not_colon b e = by (b == 58) refl
  where
    by : (c : Bool) → (b == 58) ≡ c → (b == 58) ≡ false
    by true same = absurd (let bad : is_part_byte 58 ≡ true = subst (λ (n : ℕ). is_part_byte n ≡ true) (eqb-true b 58 same) e in cc)
    by false other = other

not_bad : (b : ℕ) → is_part_byte b ≡ true → is_bad b ≡ false
not_bad b e = rw (not_colon b e, e) refl

in_part : (b : ℕ) → is_bad b ≡ false → is_colon b ≡ false → is_part_byte b ≡ true
in_part b kept other = by (is_part_byte b) refl
  where
    by : (c : Bool) → is_part_byte b ≡ c → is_part_byte b ≡ true
    by true e = e
    by false e = absurd (let bad : true ≡ false = sym (rw (other, e) refl) ∙ kept in cc)

part_is : (part : List ℕ) → has_byte part ≡ true → AllByRecursion (λ b. is_bad b ≡ false) part → Without 58 part → IsPart part
part_is part some kept none = (filled part some, all_of_two _ _ _ part in_part kept none)

-- ---- both ways

pub coordinate_found : (text x : List ℕ) → coordinate_of text ≡ Ok x → IsCoordinate text
unfolding coordinate_of
coordinate_found text x e =
    let a = bind_ok (unless_broken (nat_le (length text) 255) TooLong) _ x e in
    let b = bind_ok (found_or (parted 58 text) Colons) _ x a.2 in
    let c = bind_ok (found_or (parted 58 b.0.1) Colons) _ x b.2 in
    let d = bind_ok (unless_broken (not (list_any is_colon c.0.1)) Colons) _ x c.2 in
    let f = bind_ok (unless_broken (has_byte b.0.0 && (has_byte c.0.0 && has_byte c.0.1)) EmptyPart) _ x d.2 in
    let g = bind_ok (none_bad (position is_bad text)) _ x f.2 in
    let first = parted_found 58 text b.0 (found_ok _ _ b.0 b.1) in
    let second = parted_found 58 b.0.1 c.0 (found_ok _ _ c.0 c.1) in
    let version = any_none is_colon c.0.1 (not_true _ (kept_ok _ _ d.0 d.1)) in
    let some = and_parts (has_byte b.0.0) _ (kept_ok _ _ f.0 f.1) in
    let others = and_parts (has_byte c.0.0) (has_byte c.0.1) some.1 in
    let kept = none_passes is_bad text (none_bad_ok _ g.0 g.1) in
    let spelled : text ≡ b.0.0 ++ 58 ∷ (c.0.0 ++ 58 ∷ c.0.1) = first.whole ∙ ap (λ (l : List ℕ). b.0.0 ++ 58 ∷ l) second.whole in
    let all : AllByRecursion (λ n. is_bad n ≡ false) (b.0.0 ++ 58 ∷ (c.0.0 ++ 58 ∷ c.0.1)) = subst (AllByRecursion (λ n. is_bad n ≡ false)) spelled kept in
    let back : AllByRecursion (λ n. is_bad n ≡ false) (c.0.0 ++ 58 ∷ c.0.1) = (all_back _ b.0.0 (58 ∷ (c.0.0 ++ 58 ∷ c.0.1)) all).1 in
    record {
      parts = record { group = b.0.0; artifact = c.0.0; version = c.0.1 };
      are = record {
        group = part_is b.0.0 some.0 (all_front _ b.0.0 _ all) first.none;
        artifact = part_is c.0.0 others.0 (all_front _ c.0.0 _ back) second.none;
        version = part_is c.0.1 others.1 (all_back _ c.0.0 (58 ∷ c.0.1) back).1 version;
      };
      spelled = sym spelled;
      short = leb-true (length text) 255 (kept_ok _ _ a.0 a.1);
    }

pub no_colons : (part : List ℕ) → AllByRecursion (λ b. is_part_byte b ≡ true) part → Without 58 part
no_colons part all = all_by _ _ part not_colon all

pub joined_none_bad : (p : Parts) → AreParts p → AllByRecursion (λ b. is_bad b ≡ false) (joined p)
joined_none_bad p are =
    all_both _ p.group _ (all_by _ _ p.group not_bad are.group.1)
    (refl, all_both _ p.artifact _ (all_by _ _ p.artifact not_bad are.artifact.1) (refl, all_by _ _ p.version not_bad are.version.1))

pub joined_only : (p : Parts) → AreParts p → length (joined p) ≤ 255 → coordinate_of (joined p) ≡ Ok (joined p)
unfolding coordinate_of
joined_only p are short =
    rw (
      le-leb (length (joined p)) 255 short,
      parted_only 58 p.group (p.artifact ++ 58 ∷ p.version) (no_colons p.group are.group.1),
      parted_only 58 p.artifact p.version (no_colons p.artifact are.artifact.1),
      none_any is_colon p.version (no_colons p.version are.version.1),
      is_filled p.group are.group.0,
      is_filled p.artifact are.artifact.0,
      is_filled p.version are.version.0,
      none_found is_bad (joined p) (joined_none_bad p are),
    ) refl

pub coordinate_only : (text : List ℕ) → IsCoordinate text → coordinate_of text ≡ Ok text
coordinate_only text is =
    subst (λ (t : List ℕ). coordinate_of t ≡ Ok t) is.spelled (joined_only is.parts is.are (subst (λ (t : List ℕ). length t ≤ 255) (sym is.spelled) is.short))

-- what is read is the text itself
pub read_as_it_is : (text x : List ℕ) → coordinate_of text ≡ Ok x → x ≡ text
read_as_it_is text x e = ok_is x text (sym e ∙ coordinate_only text (coordinate_found text x e))

pub coordinate_verdict : (text : List ℕ) → CoordinateVerdict text
coordinate_verdict text = by (coordinate_of text) refl
  where
    by : (r : Result (List ℕ) CoordinateFault) → coordinate_of text ≡ r → CoordinateVerdict text
    by (Ok x) e = IsRead (coordinate_found text x e) (λ f broken. absurd (let bad : Ok x ≡ Err f = sym e ∙ broken in cc))
    by (Err f) e = IsBroken f e (λ is. let bad : Ok text ≡ Err f = sym (coordinate_only text is) ∙ e in cc)
