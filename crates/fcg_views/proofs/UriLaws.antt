-- URIs of methods: what is read is one, and each one is read. So a text is the URI of one method, or has one fault.
use Rattle.std.proofs.Common.{◌≡◌, ℕ, ◌+◌, ◌≤◌, ◌<◌, Bool, true, false, not, List, [], ◌∷◌, ◌++◌, length, take, drop, nat_eq, refl, sym, ap, subst, ◌∙◌, append_assoc, arith}
use Rattle.std.specs.Prelude.{Some, None, Result, Ok, Err, IfOk, ◌==◌, codes}
use Rattle.std.specs.List.{list_any}
use Rattle.std.specs.Cmp.Lexicographic.{pointwise}
use Rattle.std.proofs.lemmas.Bool.{eqb-true}
use Rattle.std.proofs.lemmas.Bool.Decides.{Decides-eqb}
use Rattle.std.proofs.lemmas.Slice.Eq.{slice_eq-Decides}
use Rattle.std.proofs.lemmas.List.{take-append-drop}
use Rattle.std.proofs.Math.Seq.{drop-append_seam}
use Rattle.fcg_grammar.specs.declared.error.ReadError.{ReadError}
use Rattle.fcg_grammar.specs.Reading.{unless_broken, Gives}
use Rattle.fcg_grammar.proofs.LawLemmas.{bind_ok, kept_ok}
use Rattle.fcg_grammar.proofs.Standing.{ok_is}
use Rattle.fcg_views.specs.declared.coordinate.CoordinateFault.{CoordinateFault}
use Rattle.fcg_views.specs.declared.escaping.Place.{Place}
use Rattle.fcg_views.specs.declared.escaping.Place.TheVariants.{Class, Member, Desc}
use Rattle.fcg_views.specs.declared.uri.MethodUri.{MethodUri}
use Rattle.fcg_views.specs.declared.uri.UriFault.{UriFault}
use Rattle.fcg_views.specs.declared.uri.UriRule.TheVariants as rules
use Rattle.fcg_views.specs.Coordinate.{is_part_byte, Parts, AreParts, joined, IsCoordinate, parted, found_or, is_colon, has_byte, coordinate_of}
use Rattle.fcg_views.specs.Descriptor.{IsDescriptor}
use Rattle.fcg_views.specs.DescriptorSteps.{is_descriptor}
use Rattle.fcg_views.specs.Escape.{escaped, unescaped}
use Rattle.fcg_views.specs.Uri.{scheme, in_uri, with_coordinate, Spells, with_dollar, uri_text, IsMethod, Names, fault, after_scheme, broken_coordinate, coordinate_in, part_to, at_escape, method_of, member_at, uri_of, UriVerdict, IsRead, IsBroken}
use Rattle.fcg_views.proofs.PartLaws.{Without, parted_found, parted_only, any_none, none_any, all_back, all_both, all_by}
use Rattle.fcg_views.proofs.CoordinateLaws.{found_ok, not_true, coordinate_found, coordinate_only, read_as_it_is, no_colons, filled, is_filled}
use Rattle.fcg_views.proofs.DescLaws.{descriptor_found, descriptor_only}
use Rattle.fcg_views.proofs.EscapeLaws.{Found, unescaped_found, unescaped_only, escaped_without, escaped_some, by_place, in_turn}

-- ---- the text as a listing

abbrev listed : List ℕ → List ℕ → List ℕ → List ℕ → List ℕ
listed c class name desc = scheme ++ (c ++ 47 ∷ (class ++ 46 ∷ (name ++ desc)))

-- in the order of the text
as_listed : (s c class name desc : List ℕ) → s ++ c ++ 47 ∷ [] ++ class ++ 46 ∷ [] ++ name ++ desc ≡ s ++ (c ++ 47 ∷ (class ++ 46 ∷ (name ++ desc)))
as_listed s c class name desc =
    append_assoc (s ++ c ++ 47 ∷ [] ++ class ++ 46 ∷ []) name desc
    ∙ append_assoc (s ++ c ++ 47 ∷ [] ++ class) (46 ∷ []) (name ++ desc)
    ∙ append_assoc (s ++ c ++ 47 ∷ []) class (46 ∷ (name ++ desc))
    ∙ append_assoc (s ++ c) (47 ∷ []) (class ++ 46 ∷ (name ++ desc))
    ∙ append_assoc s c (47 ∷ (class ++ 46 ∷ (name ++ desc)))

uri_listed : (c : List ℕ) (u : MethodUri) → with_coordinate c u ≡ listed c (escaped Class u.class) (escaped Member u.name) (escaped Desc u.desc)
uri_listed c u = as_listed scheme c (escaped Class u.class) (escaped Member u.name) (escaped Desc u.desc)

-- ---- the coordinate

not_dollar : (b : ℕ) → is_part_byte b ≡ true → (b == 36) ≡ false
not_dollar b e = by (b == 36) refl
  where
    by : (c : Bool) → (b == 36) ≡ c → (b == 36) ≡ false
    by true same = absurd (let bad : is_part_byte 36 ≡ true = subst (λ (n : ℕ). is_part_byte n ≡ true) (eqb-true b 36 same) e in cc)
    by false other = other

not_slash : (b : ℕ) → is_part_byte b ≡ true → (b == 47) ≡ false
not_slash b e = by (b == 47) refl
  where
    by : (c : Bool) → (b == 47) ≡ c → (b == 47) ≡ false
    by true same = absurd (let bad : is_part_byte 47 ≡ true = subst (λ (n : ℕ). is_part_byte n ≡ true) (eqb-true b 47 same) e in cc)
    by false other = other

record FoundCoordinate (text c : List ℕ) : Type 0 where
  parts : Parts
  are : AreParts parts
  coordinate : joined parts ≡ c
  short : length c ≤ 255
  spelled : in_uri parts ≡ text

broken_ok : (r : Result (List ℕ) CoordinateFault) (x : List ℕ) → broken_coordinate r ≡ Ok x → r ≡ Ok x
broken_ok (Ok y) x e = ap (λ (z : List ℕ). Ok z) (ok_is y x e)
broken_ok (Err f) x e = absurd cc

-- the group and the artifact, in front of the `$`
record Front (front : List ℕ) (p : Parts) : Type 0 where
  spelled : p.group ++ 58 ∷ p.artifact ≡ front

-- where the last part has no colon, the cut in a joined text is its second colon
cut_is : (p : Parts) → AreParts p → (front version : List ℕ) → Without 58 version → joined p ≡ front ++ 58 ∷ version → (p.version ≡ version) × (p.group ++ 58 ∷ p.artifact ≡ front)
cut_is p are front version none e = by_last (p.group ++ 58 ∷ p.artifact) front (append_assoc p.group (58 ∷ p.artifact) (58 ∷ p.version) ∙ e)
  where
    colon_in : (xs : List ℕ) (ys zs : List ℕ) → Without 58 zs → ys ≡ xs ++ 58 ∷ zs → Without 58 ys → ⊥
    colon_in xs ys zs w f v =
        let bad : (58 == 58) ≡ false = (all_back _ xs (58 ∷ zs) (subst (Without 58) f v)).0 in
        cc

    tail_is : (x y : ℕ) (xs ys : List ℕ) → x ∷ xs ≡ y ∷ ys → xs ≡ ys
    tail_is x y xs ys f = cc

    head_is : (x y : ℕ) (xs ys : List ℕ) → x ∷ xs ≡ y ∷ ys → x ≡ y
    head_is x y xs ys f = cc

    by_last : (xs ys : List ℕ) → xs ++ 58 ∷ p.version ≡ ys ++ 58 ∷ version → (p.version ≡ version) × (xs ≡ ys)
    by_last [] [] f = (tail_is _ _ _ _ f, refl)
    by_last [] (y ∷ ys) f = absurd (colon_in ys p.version version none (tail_is _ _ _ _ f) (no_colons p.version are.version.1))
    by_last (x ∷ xs) [] f = absurd (colon_in xs version p.version (no_colons p.version are.version.1) (sym (tail_is _ _ _ _ f)) none)
    by_last (x ∷ xs) (y ∷ ys) f =
        let below = by_last xs ys (tail_is _ _ _ _ f) in
        let same : x ≡ y = head_is _ _ _ _ f in
        (below.0, rw (same, below.1) refl)

coordinate_in_found : (text c : List ℕ) → coordinate_in text ≡ Ok c → FoundCoordinate text c
unfolding coordinate_in
coordinate_in_found text c e =
    let a = bind_ok (found_or (parted 36 text) (fault 13 rules.Coordinate)) _ c e in
    let b = bind_ok (unless_broken (not (list_any is_colon a.0.1)) (fault 13 rules.Coordinate)) _ c a.2 in
    let read = broken_ok _ c b.2 in
    let cut = parted_found 36 text a.0 (found_ok _ _ a.0 a.1) in
    let version = any_none is_colon a.0.1 (not_true _ (kept_ok _ _ b.0 b.1)) in
    let whole : a.0.0 ++ codes ":" ++ a.0.1 ≡ a.0.0 ++ 58 ∷ a.0.1 = append_assoc a.0.0 (58 ∷ []) a.0.1 in
    let is = coordinate_found _ c read in
    let same = cut_is is.parts is.are a.0.0 a.0.1 version (is.spelled ∙ whole) in
    let text_is : c ≡ a.0.0 ++ codes ":" ++ a.0.1 = read_as_it_is _ c read in
    record {
      parts = is.parts;
      are = is.are;
      coordinate = is.spelled ∙ sym text_is;
      short = subst (λ (t : List ℕ). length t ≤ 255) (sym text_is) is.short;
      spelled = sym (append_assoc is.parts.group (58 ∷ is.parts.artifact) (36 ∷ is.parts.version)) ∙ rw (same.1, same.0) (sym cut.whole);
    }

without_dollar : (p : Parts) → AreParts p → Without 36 (p.group ++ 58 ∷ p.artifact)
without_dollar p are = all_both _ p.group _ (all_by _ _ p.group not_dollar are.group.1) (refl, all_by _ _ p.artifact not_dollar are.artifact.1)

without_slash : (p : Parts) → AreParts p → Without 47 (in_uri p)
without_slash p are =
    all_both _ p.group _ (all_by _ _ p.group not_slash are.group.1)
    (refl, all_both _ p.artifact _ (all_by _ _ p.artifact not_slash are.artifact.1) (refl, all_by _ _ p.version not_slash are.version.1))

coordinate_in_only : (p : Parts) → AreParts p → length (joined p) ≤ 255 → coordinate_in (in_uri p) ≡ Ok (joined p)
unfolding coordinate_in
coordinate_in_only p are short =
    let front : in_uri p ≡ (p.group ++ 58 ∷ p.artifact) ++ 36 ∷ p.version = sym (append_assoc p.group (58 ∷ p.artifact) (36 ∷ p.version)) in
    let cut : parted 36 (in_uri p) ≡ Some (p.group ++ 58 ∷ p.artifact, p.version) = ap (parted 36) front ∙ parted_only 36 (p.group ++ 58 ∷ p.artifact) p.version (without_dollar p are) in
    let whole : (p.group ++ 58 ∷ p.artifact) ++ codes ":" ++ p.version ≡ joined p = append_assoc (p.group ++ 58 ∷ p.artifact) (58 ∷ []) p.version ∙ append_assoc p.group (58 ∷ p.artifact) (58 ∷ p.version) in
    let read : coordinate_of (joined p) ≡ Ok (joined p) = coordinate_only (joined p) (record { parts = p; are = are; spelled = refl; short = short }) in
    rw (cut, none_any is_colon p.version (no_colons p.version are.version.1), whole, read) refl

-- ---- the text that is printed

pub dollar_is : (p : Parts) → AreParts p → with_dollar (joined p) ≡ in_uri p
unfolding with_dollar
dollar_is p are =
    rw (parted_only 58 p.group (p.artifact ++ 58 ∷ p.version) (no_colons p.group are.group.1), parted_only 58 p.artifact p.version (no_colons p.artifact are.artifact.1))
    (append_assoc p.group (58 ∷ []) _ ∙ ap (λ (l : List ℕ). p.group ++ 58 ∷ l) (append_assoc p.artifact (36 ∷ []) p.version))

pub printed : (u : MethodUri) → IsCoordinate u.coordinate → Spells (uri_text u) u
unfolding uri_text
printed u is = record {
  parts = is.parts;
  are = is.are;
  coordinate = is.spelled;
  short = is.short;
  spelled = ap (λ (c : List ℕ). with_coordinate c u) (sym (dollar_is is.parts is.are) ∙ ap with_dollar is.spelled);
}

-- what is a URI is printed so
pub spelled_so : (text : List ℕ) (u : MethodUri) → Spells text u → uri_text u ≡ text
unfolding uri_text
spelled_so text u s = ap (λ (c : List ℕ). with_coordinate c u) (ap with_dollar (sym s.coordinate) ∙ dollar_is s.parts s.are) ∙ s.spelled

-- ---- parts

record FoundPart (byte : ℕ) (rest : List ℕ) (p : List ℕ × List ℕ) : Type 0 where
  whole : rest ≡ p.0 ++ byte ∷ p.1
  some : 0 < length p.0

part_to_found : (byte end at : ℕ) (rest : List ℕ) (p : List ℕ × List ℕ) → part_to byte end at rest ≡ Ok p → FoundPart byte rest p
unfolding part_to
part_to_found byte end at rest p e =
    let a = bind_ok (found_or (parted byte rest) (fault end rules.Shape)) _ p e in
    let b = bind_ok (unless_broken (has_byte a.0.0) (fault at rules.Shape)) _ p a.2 in
    subst (FoundPart byte rest) (ok_is a.0 p b.2) (record { whole = (parted_found byte rest a.0 (found_ok _ _ a.0 a.1)).whole; some = filled a.0.0 (kept_ok _ _ b.0 b.1) })

part_to_only : (byte end at : ℕ) (part rest : List ℕ) → Without byte part → 0 < length part → part_to byte end at (part ++ byte ∷ rest) ≡ Ok (part, rest)
unfolding part_to
part_to_only byte end at part rest none some = rw (parted_only byte part rest none, is_filled part some) refl

escape_ok : (r : Result (List ℕ) ℕ) (x : List ℕ) → at_escape r ≡ Ok x → r ≡ Ok x
escape_ok (Ok y) x e = ap (λ (z : List ℕ). Ok z) (ok_is y x e)
escape_ok (Err at) x e = absurd cc

-- a part that is read back from an escaped one that has a byte has one
some_left : (place : Place) (text bytes : List ℕ) → Found place text bytes → 0 < length text → 0 < length bytes
unfolding escaped
some_left place text [] f some = absurd (let none : 0 < length (escaped place []) = subst (λ (t : List ℕ). 0 < length t) (sym f.spelled) some in omega arith)
some_left place text (b ∷ bs) f some = omega arith

-- ---- both ways

record FoundMethod (coordinate class name desc : List ℕ) (u : MethodUri) : Type 0 where
  coordinate_is : coordinate ≡ u.coordinate
  class_is : Found Class class u.class
  name_is : Found Member name u.name
  desc_is : Found Desc desc u.desc
  described : IsDescriptor u.desc

method_found : (coordinate : List ℕ) (at : ℕ) (class name desc : List ℕ) (u : MethodUri) → method_of coordinate at class name desc ≡ Ok u → FoundMethod coordinate class name desc u
unfolding method_of
method_found coordinate at class name desc u e =
    let a = bind_ok (at_escape (unescaped Class at class)) _ u e in
    let b = bind_ok (at_escape (unescaped Member (at + length class + 1) name)) _ u a.2 in
    let c = bind_ok (at_escape (unescaped Desc (at + length class + 1 + length name) desc)) _ u b.2 in
    let d = bind_ok (unless_broken (is_descriptor c.0) (fault (at + length class + 1 + length name) rules.Descriptor)) _ u c.2 in
    let made : MethodUri = record { coordinate = coordinate; class = a.0; name = b.0; desc = c.0 } in
    subst (FoundMethod coordinate class name desc) (ok_is made u d.2) (record {
      coordinate_is = refl;
      class_is = unescaped_found Class at class a.0 (escape_ok _ a.0 a.1);
      name_is = unescaped_found Member (at + length class + 1) name b.0 (escape_ok _ b.0 b.1);
      desc_is = unescaped_found Desc (at + length class + 1 + length name) desc c.0 (escape_ok _ c.0 c.1);
      described = descriptor_found c.0 (kept_ok _ _ d.0 d.1);
    })

scheme_found : (text rest : List ℕ) → after_scheme text ≡ Some rest → text ≡ scheme ++ rest
scheme_found text rest e = by (pointwise nat_eq (take 13 text) scheme) refl
  where
    some_is : (x y : List ℕ) → Some x ≡ Some y → x ≡ y
    some_is x y f = cc

    by : (b : Bool) → pointwise nat_eq (take 13 text) scheme ≡ b → text ≡ scheme ++ rest
    by true t =
        let front : take 13 text ≡ scheme = (slice_eq-Decides Decides-eqb (take 13 text) scheme (pointwise nat_eq (take 13 text) scheme) refl).0 t in
        let back : drop 13 text ≡ rest = some_is (drop 13 text) rest (sym (rw t refl) ∙ e) in
        sym (take-append-drop 13 text) ∙ rw (front, back) refl
    by false t = absurd (let bad : None ≡ Some rest = sym (rw t refl) ∙ e in cc)

scheme_only : (rest : List ℕ) → after_scheme (scheme ++ rest) ≡ Some rest
scheme_only rest = refl

abbrev Whole : List ℕ → List ℕ → List ℕ → List ℕ → List ℕ → Type 0
Whole text c class name desc = text ≡ listed c class name desc

pub uri_found : (text : List ℕ) (u : MethodUri) → uri_of text ≡ Ok u → Names text u
unfolding uri_of member_at
uri_found text u e =
    let a = bind_ok (found_or (after_scheme text) (fault 0 rules.Scheme)) _ u e in
    let b = bind_ok (found_or (parted 47 a.0) (fault (length text) rules.Shape)) _ u a.2 in
    let c = bind_ok (coordinate_in b.0.0) _ u b.2 in
    let at : ℕ = 13 + length b.0.0 + 1 in
    let d = bind_ok (part_to 46 (length text) at b.0.1) _ u c.2 in
    let f = bind_ok (part_to 40 (length text) (at + length d.0.0 + 1) d.0.1) _ u d.2 in
    let begun = scheme_found text a.0 (found_ok _ _ a.0 a.1) in
    let front = parted_found 47 a.0 b.0 (found_ok _ _ b.0 b.1) in
    let coordinate = coordinate_in_found b.0.0 c.0 c.1 in
    let class = part_to_found 46 (length text) at b.0.1 d.0 d.1 in
    let name = part_to_found 40 (length text) (at + length d.0.0 + 1) d.0.1 f.0 f.1 in
    let desc : drop (length f.0.0) d.0.1 ≡ 40 ∷ f.0.1 = ap (drop (length f.0.0)) name.whole ∙ drop-append_seam f.0.0 (40 ∷ f.0.1) in
    let method = method_found c.0 at d.0.0 f.0.0 (drop (length f.0.0) d.0.1) u f.2 in
    let rest : d.0.1 ≡ f.0.0 ++ drop (length f.0.0) d.0.1 = name.whole ∙ ap (λ (l : List ℕ). f.0.0 ++ l) (sym desc) in
    let whole : Whole text (in_uri coordinate.parts) d.0.0 f.0.0 (drop (length f.0.0) d.0.1) =
    begun ∙ ap (λ (l : List ℕ). scheme ++ l) (front.whole ∙ ap (λ (l : List ℕ). b.0.0 ++ 47 ∷ l) (class.whole ∙ ap (λ (l : List ℕ). d.0.0 ++ 46 ∷ l) rest))
    ∙ ap (λ (l : List ℕ). scheme ++ (l ++ 47 ∷ (d.0.0 ++ 46 ∷ (f.0.0 ++ drop (length f.0.0) d.0.1)))) (sym coordinate.spelled) in
    let parts : listed (in_uri coordinate.parts) (escaped Class u.class) (escaped Member u.name) (escaped Desc u.desc) ≡ listed (in_uri coordinate.parts) d.0.0 f.0.0 (drop (length f.0.0) d.0.1) =
    rw (method.class_is.spelled, method.name_is.spelled, method.desc_is.spelled) refl in
    record {
      spells = record {
        parts = coordinate.parts;
        are = coordinate.are;
        coordinate = coordinate.coordinate ∙ method.coordinate_is;
        short = subst (λ (t : List ℕ). length t ≤ 255) method.coordinate_is coordinate.short;
        spelled = uri_listed (in_uri coordinate.parts) u ∙ parts ∙ sym whole;
      };
      method = record {
        class = (some_left Class d.0.0 u.class method.class_is class.some, by_place u.class method.class_is.fit);
        name = (some_left Member f.0.0 u.name method.name_is name.some, by_place u.name method.name_is.fit);
        desc = (method.described, by_place u.desc method.desc_is.fit);
      };
    }

-- a method descriptor begins with a bracket, which stands
begins : (desc : List ℕ) → IsDescriptor desc → (rest : List ℕ) × (escaped Desc desc ≡ 40 ∷ rest)
unfolding escaped
begins [] is = absurd (let bad = is.2 in cc)
begins (b ∷ bs) is =
    let first : b ≡ 40 = first_is b 40 bs _ (sym is.2) in
    (escaped Desc bs, rw first refl)
  where
    first_is : (x y : ℕ) (xs ys : List ℕ) → x ∷ xs ≡ y ∷ ys → x ≡ y
    first_is x y xs ys e = cc

method_only : (u : MethodUri) (at : ℕ) → IsMethod u → method_of u.coordinate at (escaped Class u.class) (escaped Member u.name) (escaped Desc u.desc) ≡ Ok u
unfolding method_of
method_only u at is =
    rw (
      unescaped_only Class at u.class (in_turn u.class is.class.1),
      unescaped_only Member (at + length (escaped Class u.class) + 1) u.name (in_turn u.name is.name.1),
      unescaped_only Desc (at + length (escaped Class u.class) + 1 + length (escaped Member u.name)) u.desc (in_turn u.desc is.desc.1),
      descriptor_only u.desc is.desc.0,
    ) refl

member_only : (u : MethodUri) (end at : ℕ) → IsMethod u → member_at u.coordinate end at (escaped Class u.class ++ 46 ∷ (escaped Member u.name ++ escaped Desc u.desc)) ≡ Ok u
unfolding member_at
member_only u end at is =
    let desc = begins u.desc is.desc.0 in
    let back : drop (length (escaped Member u.name)) (escaped Member u.name ++ escaped Desc u.desc) ≡ escaped Desc u.desc = drop-append_seam (escaped Member u.name) (escaped Desc u.desc) in
    let class = part_to_only 46 end at (escaped Class u.class) (escaped Member u.name ++ escaped Desc u.desc) (escaped_without Class 46 u.class refl refl refl (in_turn u.class is.class.1)) (escaped_some Class u.class is.class.0) in
    let name : part_to 40 end (at + length (escaped Class u.class) + 1) (escaped Member u.name ++ escaped Desc u.desc) ≡ Ok (escaped Member u.name, desc.0) =
    ap (λ (d : List ℕ). part_to 40 end (at + length (escaped Class u.class) + 1) (escaped Member u.name ++ d)) desc.1
    ∙ part_to_only 40 end (at + length (escaped Class u.class) + 1) (escaped Member u.name) desc.0 (escaped_without Member 40 u.name refl refl refl (in_turn u.name is.name.1)) (escaped_some Member u.name is.name.0) in
    rw (class, name, back, method_only u at is) refl

listed_only : (text : List ℕ) (p : Parts) (u : MethodUri) → AreParts p → joined p ≡ u.coordinate → length u.coordinate ≤ 255 → IsMethod u → text ≡ listed (in_uri p) (escaped Class u.class) (escaped Member u.name) (escaped Desc u.desc) → uri_of text ≡ Ok u
unfolding uri_of
listed_only text p u are is short method e =
    let after : List ℕ = escaped Class u.class ++ 46 ∷ (escaped Member u.name ++ escaped Desc u.desc) in
    let begun : after_scheme text ≡ Some (in_uri p ++ 47 ∷ after) = ap after_scheme e ∙ scheme_only (in_uri p ++ 47 ∷ after) in
    let front : parted 47 (in_uri p ++ 47 ∷ after) ≡ Some (in_uri p, after) = parted_only 47 (in_uri p) after (without_slash p are) in
    let coordinate : coordinate_in (in_uri p) ≡ Ok u.coordinate = coordinate_in_only p are (subst (λ (t : List ℕ). length t ≤ 255) (sym is) short) ∙ ap (λ (t : List ℕ). Ok t) is in
    rw (begun, front, coordinate) (member_only u (length text) (13 + length (in_uri p) + 1) method)

pub uri_only : (text : List ℕ) (u : MethodUri) → Names text u → uri_of text ≡ Ok u
uri_only text u is = listed_only text is.spells.parts u is.spells.are is.spells.coordinate is.spells.short is.method (sym is.spells.spelled ∙ uri_listed (in_uri is.spells.parts) u)

-- ---- the whole

pub is_found : (text : List ℕ) (r : Result MethodUri (ReadError UriFault)) → Gives (λ u. u) r (uri_of text) → IfOk r (Names text)
is_found text (Ok u) e = uri_found text u e
is_found text (Err f) e = tt

pub uri_verdict : (text : List ℕ) → UriVerdict text
uri_verdict text = by (uri_of text) refl
  where
    by : (r : Result MethodUri UriFault) → uri_of text ≡ r → UriVerdict text
    by (Ok u) e = IsRead u (uri_found text u e) (λ other is. ok_is other u (sym (uri_only text other is) ∙ e)) (λ f broken. let bad : Ok u ≡ Err f = sym e ∙ broken in cc)
    by (Err f) e = IsBroken f e (λ u is. let bad : Ok u ≡ Err f = sym (uri_only text u is) ∙ e in cc)

pub is_printed : {E : Type 0} (u : MethodUri) (r : Result (List ℕ) E) → IfOk r (λ text. text ≡ uri_text u) → IfOk r (λ text. IsCoordinate u.coordinate) → IfOk r (λ text. Spells text u)
is_printed u (Ok text) e is = subst (λ (t : List ℕ). Spells t u) (sym e) (printed u is)
is_printed u (Err f) e is = tt

pub read_back : (u : MethodUri) → IsCoordinate u.coordinate → IsMethod u → uri_of (uri_text u) ≡ Ok u
read_back u is method = uri_only (uri_text u) u (record { spells = printed u is; method = method })

pub printed_back : (text : List ℕ) (u : MethodUri) → uri_of text ≡ Ok u → uri_text u ≡ text
printed_back text u e = spelled_so text u (uri_found text u e).spells
