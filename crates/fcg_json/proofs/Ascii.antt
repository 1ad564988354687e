-- Coordinates and URIs are ASCII.
use Rattle.std.proofs.Common.{◌≡◌, ℕ, zero, suc, ◌/◌, ◌%◌, ◌<◌, Bool, true, false, List, [], ◌∷◌, ◌++◌, refl, arith, subst}
use Rattle.std.specs.Prelude.{slice_index, nat_lt, codes, if◌then◌else◌}
use Rattle.std.specs.List.{list_all, AllByRecursion}
use Rattle.std.specs.Fmt.{digit_glyph}
use Rattle.std.proofs.lemmas.Bool.{and_parts}
use Rattle.std.proofs.lemmas.Bool.Decides.{nat_tests}
use Rattle.fcg_views.specs.Coordinate.{Parts, AreParts, is_part_byte, IsCoordinate}
use Rattle.fcg_views.specs.Escape.{may_stand, escape_of, escaped}
use Rattle.fcg_views.specs.Uri.{scheme, in_uri, Spells}
use Rattle.fcg_views.specs.declared.escaping.Place.{Place}
use Rattle.fcg_views.specs.declared.escaping.Place.TheVariants.{Class, Member, Desc}
use Rattle.fcg_views.specs.declared.uri.MethodUri.{MethodUri}

abbrev pub Below : ℕ → List ℕ → Type 0
Below n xs = (i : ℕ) → slice_index xs i < n

-- ---- lists

both : (xs ys : List ℕ) → Below 128 xs → Below 128 ys → Below 128 (xs ++ ys)
both [] ys p q i = q i
both (b ∷ xs) ys p q zero = p zero
both (b ∷ xs) ys p q (suc i) = both xs ys (λ k. p (suc k)) q i

front : (b : ℕ) (ys : List ℕ) → b < 128 → Below 128 ys → Below 128 (b ∷ ys)
front b ys small q zero = small
front b ys small q (suc i) = q i

none : Below 128 []
none zero = omega arith
none (suc i) = omega arith

listed : (xs : List ℕ) → list_all (λ b. nat_lt b 128) xs ≡ true → Below 128 xs
listed [] e = none
listed (b ∷ xs) e =
    let parts = and_parts (nat_lt b 128) (list_all (λ b. nat_lt b 128) xs) e in
    let small : b < 128 = grind (arith, nat_tests) in
    front b xs small (listed xs parts.1)

-- ---- coordinates

part_byte : (b : ℕ) → is_part_byte b ≡ true → b < 128
part_byte b e = grind (arith, nat_tests)

part_ascii : (xs : List ℕ) → AllByRecursion (λ b. is_part_byte b ≡ true) xs → Below 128 xs
part_ascii [] a = none
part_ascii (b ∷ xs) a = front b xs (part_byte b a.0) (part_ascii xs a.1)

-- three parts with these bytes between
spelled_ascii : (p : Parts) → AreParts p → (second : ℕ) → second < 128 → Below 128 (p.group ++ 58 ∷ (p.artifact ++ second ∷ p.version))
spelled_ascii p are second small =
    both p.group _ (part_ascii p.group are.group.1)
    (front 58 _ (omega arith) (both p.artifact _ (part_ascii p.artifact are.artifact.1)
    (front second _ small (part_ascii p.version are.version.1))))

pub coordinate_ascii : (text : List ℕ) → IsCoordinate text → Below 128 text
coordinate_ascii text c = subst (Below 128) c.spelled (spelled_ascii c.parts c.are 58 (omega arith))

-- ---- escapes

standing : (place : Place) (b : ℕ) → may_stand place b ≡ true → b < 128
standing Class b e = grind (arith, nat_tests)
standing Member b e = grind (arith, nat_tests)
standing Desc b e = grind (arith, nat_tests)

glyph_small : (n : ℕ) → n < 16 → digit_glyph true n < 128
glyph_small n small = by (nat_lt n 10) refl
  where
    by : (t : Bool) → nat_lt n 10 ≡ t → digit_glyph true n < 128
    by true t = rw t (let low : n < 10 = grind (arith, nat_tests) in omega arith)
    by false t = rw t (omega arith)

byte_ascii : (place : Place) (b : ℕ) → b < 256 → Below 128 (if may_stand place b then b ∷ [] else escape_of b)
byte_ascii place b small = by (may_stand place b) refl
  where
    by : (t : Bool) → may_stand place b ≡ t → Below 128 (if t then b ∷ [] else escape_of b)
    by true t = front b [] (standing place b t) none
    by false t =
        front 37 (digit_glyph true (b / 16) ∷ digit_glyph true (b % 16) ∷ []) (omega arith)
        (front (digit_glyph true (b / 16)) (digit_glyph true (b % 16) ∷ []) (glyph_small (b / 16) (omega arith))
        (front (digit_glyph true (b % 16)) [] (glyph_small (b % 16) (omega arith)) none))

escaped_ascii : (place : Place) (xs : List ℕ) → Below 256 xs → Below 128 (escaped place xs)
unfolding escaped
escaped_ascii place [] p = none
escaped_ascii place (b ∷ xs) p = both _ (escaped place xs) (byte_ascii place b (p zero)) (escaped_ascii place xs (λ i. p (suc i)))

-- ---- URIs

pub uri_ascii : (text : List ℕ) (u : MethodUri) → Spells text u → Below 256 u.class → Below 256 u.name → Below 256 u.desc → Below 128 text
uri_ascii text u s class name desc =
    let coordinate = scheme ++ in_uri s.parts in
    let before_class = coordinate ++ codes "/" in
    let to_class = before_class ++ escaped Class u.class in
    let before_name = to_class ++ codes "." in
    let to_name = before_name ++ escaped Member u.name in
    let a : Below 128 coordinate = both scheme (in_uri s.parts) (listed scheme refl) (spelled_ascii s.parts s.are 36 (omega arith)) in
    let b : Below 128 before_class = both coordinate (codes "/") a (listed (codes "/") refl) in
    let c : Below 128 to_class = both before_class (escaped Class u.class) b (escaped_ascii Class u.class class) in
    let d : Below 128 before_name = both to_class (codes ".") c (listed (codes ".") refl) in
    let e : Below 128 to_name = both before_name (escaped Member u.name) d (escaped_ascii Member u.name name) in
    subst (Below 128) s.spelled (both to_name (escaped Desc u.desc) e (escaped_ascii Desc u.desc desc))
