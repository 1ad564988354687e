-- The links by numbers are those of the types.
use Rattle.std.proofs.Common.{◌≡◌, ℕ, zero, suc, ◌<◌, List, [], ◌∷◌, length, get_or, refl, sym, ap, subst, ◌∙◌, inl, inr, cond, arith}
use Rattle.std.specs.Prelude.{map, Bool, true, false, not, ◌||◌, Option, Some, None, option_map, option_and_then, option_to_list, slice_get, Contains}
use Rattle.std.specs.List.{IsDistinct}
use Rattle.std.specs.Cmp.Lexicographic.{bytes_decides}
use Rattle.std.proofs.lemmas.Option.{get_or_from_slice_get, slice_get_within, slice_get-get_or, slice_get-map, same_Some}
use Rattle.std.proofs.lemmas.Bool.{or_cases, or_left, or_right, and_from}
use Rattle.std.proofs.lemmas.List.{length-map}
use Rattle.fcg_grammar.specs.Table.{place}
use Rattle.fcg_grammar.proofs.Among.{Among}
use Rattle.fcg_partial.specs.Parts.{PartShown}
use Rattle.fcg_views.specs.NamesIn.{names_of_super}
use Rattle.fcg_analysis.specs.NamesAndFlags.{same, has, contains}
use Rattle.fcg_analysis.specs.Declarations.{Placed, is_type, is_class, is_interface, is_object, superclass_names, interface_names}
use Rattle.fcg_analysis.specs.Types.{links, extends, implements}
use Rattle.fcg_analysis.proofs.General.Members.{IsIn, IsIn-from_Contains, Contains-from_IsIn, any_in, in_any, and_first, and_second, append_left, append_right, in_append, flat_map_in, in_flat_map}
use Rattle.fcg_analysis.proofs.OverrideLaws.{one_of_name}
use Rattle.fcg_order.specs.Links.{HasLink}
use Rattle.fcg_join.specs.declared.heads.TypeHead.{TypeHead}
use Rattle.fcg_join.specs.SetNames.{set_names}
use Rattle.fcg_join.specs.Internal.TypeHeads.{IsHead, no_head, used_superclass}
use Rattle.fcg_join.specs.TypeLinks.{HasTypeAt, HasLinks}
use Rattle.fcg_join.specs.Internal.TypeNumbers.{AreHeads, FindsHeads, head_at, type_numbered, class_numbered, interface_numbered, superclass_numbered, interfaces_numbered, links_numbered}
use Rattle.fcg_join.proofs.Firsts.{same_names}
use Rattle.fcg_join.proofs.Places.{has_in, one_place}
use Rattle.fcg_join.proofs.ZipLaws.{zip_left, zip_right, zip_long}
use Rattle.fcg_join.proofs.HeadLaws.{head_named, head_name, super_named, interfaces_named}

in_option : (o : Option ℕ) (y : ℕ) → IsIn y (option_to_list o) → o ≡ Some y
in_option None y i = absurd i
in_option (Some z) y (inl e) = ap (λ (n : ℕ). Some n) e
in_option (Some z) y (inr i) = absurd i

option_in : (o : Option ℕ) (y : ℕ) → o ≡ Some y → IsIn y (option_to_list o)
option_in None y e = absurd cc
option_in (Some z) y e = inl (same_Some z y e)

pub in_among : (x : List ℕ) (xs : List (List ℕ)) → IsIn x xs → Among x xs
in_among x [] i = i
in_among x (y ∷ ys) (inl e) = inl e
in_among x (y ∷ ys) (inr i) = inr (in_among x ys i)

module _ (parts : List PartShown) (heads : List TypeHead) (types : List Placed) (by_name : List (Option ℕ))
    (are : AreHeads parts heads types) (d : IsDistinct is_type types) (f : FindsHeads heads by_name (length (set_names parts))) where
  abbrev N : List (List ℕ)
  N = set_names parts

  -- ---- the type of a name
  pub record HasName (n : List ℕ) (y : ℕ) : Type 0 where
    pub type : Placed
    pub here : HasTypeAt types y type
    pub head : IsHead parts N (head_at heads y) type
    pub name : type.view.name ≡ n

  pub type_of_number : (n : List ℕ) → Among n N → (y : ℕ) → type_numbered by_name (place N n) ≡ Some y → HasName n y
  type_of_number n a y e =
      let r = f.found (place N n) y e in
      let u = zip_left (IsHead parts N) heads types are y (head_at heads y) (slice_get-get_or heads y no_head r.0) in
      record {
        type = u.0;
        here = u.1;
        head = u.2;
        name = same_names N u.0.view.name n (head_named parts (head_at heads y) u.0 u.2) a (sym (head_name parts (head_at heads y) u.0 u.2) ∙ r.1);
      }

  pub head_here : (y : ℕ) (u : Placed) → HasTypeAt types y u → IsHead parts N (head_at heads y) u
  head_here y u h =
      let z = zip_right (IsHead parts N) heads types are y u h in
      subst (λ (g : TypeHead). IsHead parts N g u) (sym (get_or_from_slice_get heads y z.0 no_head z.1)) z.2

  pub number_of_type : (y : ℕ) (u : Placed) → HasTypeAt types y u → type_numbered by_name (place N u.view.name) ≡ Some y
  number_of_type y u h =
      let is = head_here y u h in
      let l : y < length heads = (let a = slice_get_within types y u h in let b = zip_long (IsHead parts N) heads types are in omega arith) in
      let t = f.there y l in
      let e : type_numbered by_name (place N u.view.name) ≡ Some t.0 = ap (type_numbered by_name) (sym (head_name parts (head_at heads y) u is)) ∙ t.1 in
      let w = type_of_number u.view.name (head_named parts (head_at heads y) u is) t.0 e in
      let same : u ≡ w.type = one_of_name types u w.type d (IsIn-from_Contains types u (has_in types y u h)) (IsIn-from_Contains types w.type (has_in types t.0 w.type w.here)) ((bytes_decides u.view.name w.type.view.name).1 (sym w.name)) in
      let back : t.0 ≡ y = one_place types t.0 y u d (subst (λ (v : Placed). HasTypeAt types t.0 v) (sym same) w.here) h in
      e ∙ ap (λ (n : ℕ). Some n) back

  pub flags_are : (y : ℕ) (u : Placed) → IsHead parts N (head_at heads y) u → has 0x0200 (head_at heads y).flags ≡ is_interface u
  flags_are y u is = ap (λ (g : TypeHead). has 0x0200 g.flags) is.head_is

  -- ---- the class and the interface of a name
  pub class_is : (n : List ℕ) → Among n N → (y : ℕ) → class_numbered heads by_name (place N n) ≡ Some y → (r : HasName n y) × (is_class r.type ≡ true)
  class_is n a y e = at (type_numbered by_name (place N n)) refl e
    where
      at : (o : Option ℕ) → type_numbered by_name (place N n) ≡ o → option_and_then (λ z. cond (has 0x0200 (head_at heads z).flags) None (Some z)) o ≡ Some y
          → (r : HasName n y) × (is_class r.type ≡ true)
      at None q e = absurd cc
      at (Some z) q e =
          let r = type_of_number n a z q in
          by_kind (has 0x0200 (head_at heads z).flags) z r (sym (flags_are z r.type r.head)) e
        where
          by_kind : (b : Bool) (z : ℕ) (r : HasName n z) → is_interface r.type ≡ b → cond b None (Some z) ≡ Some y → (r : HasName n y) × (is_class r.type ≡ true)
          by_kind true z r k e = absurd cc
          by_kind false z r k e = subst (λ (m : ℕ). (r : HasName n m) × (is_class r.type ≡ true)) (same_Some z y e) (r, ap not k)

  pub class_at : (y : ℕ) (u : Placed) → HasTypeAt types y u → is_class u ≡ true → class_numbered heads by_name (place N u.view.name) ≡ Some y
  class_at y u h k =
      ap (option_and_then (λ z. cond (has 0x0200 (head_at heads z).flags) None (Some z))) (number_of_type y u h)
      ∙ ap (λ b. cond b None (Some y)) (flags_are y u (head_here y u h) ∙ no_interface (is_interface u) k)
    where
      no_interface : (b : Bool) → not b ≡ true → b ≡ false
      no_interface true e = absurd cc
      no_interface false e = refl

  interface_is : (n : List ℕ) → Among n N → (y : ℕ) → interface_numbered heads by_name (place N n) ≡ Some y → (r : HasName n y) × (is_interface r.type ≡ true)
  interface_is n a y e = at (type_numbered by_name (place N n)) refl e
    where
      at : (o : Option ℕ) → type_numbered by_name (place N n) ≡ o → option_and_then (λ z. cond (has 0x0200 (head_at heads z).flags) (Some z) None) o ≡ Some y
          → (r : HasName n y) × (is_interface r.type ≡ true)
      at None q e = absurd cc
      at (Some z) q e =
          let r = type_of_number n a z q in
          by_kind (has 0x0200 (head_at heads z).flags) z r (sym (flags_are z r.type r.head)) e
        where
          by_kind : (b : Bool) (z : ℕ) (r : HasName n z) → is_interface r.type ≡ b → cond b (Some z) None ≡ Some y → (r : HasName n y) × (is_interface r.type ≡ true)
          by_kind false z r k e = absurd cc
          by_kind true z r k e = subst (λ (m : ℕ). (r : HasName n m) × (is_interface r.type ≡ true)) (same_Some z y e) (r, k)

  interface_at : (y : ℕ) (u : Placed) → HasTypeAt types y u → is_interface u ≡ true → interface_numbered heads by_name (place N u.view.name) ≡ Some y
  interface_at y u h k =
      ap (option_and_then (λ z. cond (has 0x0200 (head_at heads z).flags) (Some z) None)) (number_of_type y u h)
      ∙ ap (λ b. cond b (Some y) None) (flags_are y u (head_here y u h) ∙ k)

  -- ---- the superclass
  pub record IsLinked (y : ℕ) (test : Placed → Bool) : Type 0 where
    pub type : Placed
    pub here : HasTypeAt types y type
    pub passes : test type ≡ true

  module _ (h : TypeHead) (t : Placed) (is : IsHead parts N h t) where
    pub super_is : (y : ℕ) → superclass_numbered heads by_name (used_superclass N t) ≡ Some y → IsLinked y (extends t)
    super_is y e = at (is_object t || is_interface t) t.view.superclass (super_named parts h t is) e refl
      where
        at : (b : Bool) (s : Option (List ℕ)) → ((x : List ℕ) → Among x (names_of_super s) → Among x N)
            → superclass_numbered heads by_name (cond b None (option_map (place N) s)) ≡ Some y → superclass_names t ≡ cond b [] (option_to_list s) → IsLinked y (extends t)
        at true s a e q = absurd cc
        at false None a e q = absurd cc
        at false (Some n) a e q =
            let r = class_is n (a n (inl refl)) y e in
            record {
              type = r.0.type;
              here = r.0.here;
              passes = and_from (is_class r.0.type) (contains r.0.type.view.name (superclass_names t)) r.1
                  (ap (contains r.0.type.view.name) q ∙ or_left (same r.0.type.view.name n) false ((bytes_decides r.0.type.view.name n).1 r.0.name));
            }

    pub super_at : (y : ℕ) (u : Placed) → HasTypeAt types y u → extends t u ≡ true → superclass_numbered heads by_name (used_superclass N t) ≡ Some y
    super_at y u a e =
        at (is_object t || is_interface t) t.view.superclass (and_first (is_class u) (contains u.view.name (superclass_names t)) e) (and_second (is_class u) (contains u.view.name (superclass_names t)) e)
      where
        at : (b : Bool) (s : Option (List ℕ)) → is_class u ≡ true → contains u.view.name (cond b [] (option_to_list s)) ≡ true
            → superclass_numbered heads by_name (cond b None (option_map (place N) s)) ≡ Some y
        at true s k e = absurd cc
        at false None k e = absurd cc
        at false (Some n) k e = elim (or_cases (same u.view.name n) false e) [
          | inl q ↦ ap (λ m. class_numbered heads by_name (place N m)) (sym ((bytes_decides u.view.name n).0 q)) ∙ class_at y u a k
          | inr q ↦ absurd cc
        ]

    -- ---- the interfaces
    names_named : (x : List ℕ) → Among x (interface_names t) → Among x N
    names_named x a = at (is_object t) a
      where
        at : (b : Bool) → Among x (cond b [] t.view.interfaces) → Among x N
        at true a = absurd a
        at false a = interfaces_named parts h t is x a

    pub interface_in : (y : ℕ) → IsIn y (interfaces_numbered N heads by_name (interface_names t)) → IsLinked y (implements t)
    interface_in y i =
        let m = in_flat_map (λ n. option_to_list (interface_numbered heads by_name (place N n))) (interface_names t) y i in
        let r = interface_is m.0 (names_named m.0 (in_among m.0 (interface_names t) m.1)) y (in_option (interface_numbered heads by_name (place N m.0)) y m.2) in
        record {
          type = r.0.type;
          here = r.0.here;
          passes = and_from (is_interface r.0.type) (contains r.0.type.view.name (interface_names t)) r.1
              (any_in (same r.0.type.view.name) (interface_names t) m.0 m.1 ((bytes_decides r.0.type.view.name m.0).1 r.0.name));
        }

    pub in_interfaces : (y : ℕ) (u : Placed) → HasTypeAt types y u → implements t u ≡ true → IsIn y (interfaces_numbered N heads by_name (interface_names t))
    in_interfaces y u a e =
        let k = and_first (is_interface u) (contains u.view.name (interface_names t)) e in
        let m = in_any (same u.view.name) (interface_names t) (and_second (is_interface u) (contains u.view.name (interface_names t)) e) in
        flat_map_in (λ n. option_to_list (interface_numbered heads by_name (place N n))) (interface_names t) m.0 y m.1
        (option_in (interface_numbered heads by_name (place N m.0)) y
        (ap (λ n. interface_numbered heads by_name (place N n)) (sym ((bytes_decides u.view.name m.0).0 m.2)) ∙ interface_at y u a k))

    -- ---- all links
    pub linked_in : (y : ℕ) → IsIn y (links_numbered N heads by_name t) → IsLinked y (links t)
    linked_in y i = elim (in_append (interfaces_numbered N heads by_name (interface_names t)) (option_to_list (superclass_numbered heads by_name (used_superclass N t))) y i) [
      | inl j ↦ (let r = interface_in y j in record { type = r.type; here = r.here; passes = or_right (extends t r.type) (implements t r.type) r.passes })
      | inr j ↦ (let r = super_is y (in_option (superclass_numbered heads by_name (used_superclass N t)) y j) in record { type = r.type; here = r.here; passes = or_left (extends t r.type) (implements t r.type) r.passes })
    ]

    pub in_linked : (y : ℕ) (u : Placed) → HasTypeAt types y u → links t u ≡ true → IsIn y (links_numbered N heads by_name t)
    in_linked y u a e = elim (or_cases (extends t u) (implements t u) e) [
      | inl q ↦ append_right (interfaces_numbered N heads by_name (interface_names t)) (option_to_list (superclass_numbered heads by_name (used_superclass N t))) y (option_in (superclass_numbered heads by_name (used_superclass N t)) y (super_at y u a q))
      | inr q ↦ append_left (interfaces_numbered N heads by_name (interface_names t)) (option_to_list (superclass_numbered heads by_name (used_superclass N t))) y (in_interfaces y u a q)
    ]

  pub has_links : (rows : List (List ℕ)) → rows ≡ map (links_numbered N heads by_name) types → HasLinks types rows
  has_links rows e = record {
    long = ap (λ rs. length rs) e ∙ length-map types (links_numbered N heads by_name);
    within = record { each = λ x y l. within x y (slice_get types x) refl l };
    each = λ x y t u a b. (
      (λ c. (let r = linked_in (head_at heads x) t (head_here x t a) y (IsIn-from_Contains (links_numbered N heads by_name t) y (subst (λ ns. Contains ns y) (row_is x t a) c)) in
          ap (links t) (same_Some u r.type (sym b ∙ r.here)) ∙ r.passes)),
      (λ q. subst (λ ns. Contains ns y) (sym (row_is x t a)) (Contains-from_IsIn (links_numbered N heads by_name t) y (in_linked (head_at heads x) t (head_here x t a) y u b q))),
    );
  }
    where
      row_is : (x : ℕ) (t : Placed) → HasTypeAt types x t → get_or rows x [] ≡ links_numbered N heads by_name t
      row_is x t a = get_or_from_slice_get rows x (links_numbered N heads by_name t) [] (ap (λ rs. slice_get rs x) e ∙ slice_get-map (links_numbered N heads by_name) types x ∙ ap (option_map (links_numbered N heads by_name)) a)

      within : (x y : ℕ) (o : Option Placed) → slice_get types x ≡ o → HasLink rows x y → y < length rows
      within x y None q l = absurd (IsIn-from_Contains [] y (subst (λ ns. Contains ns y) (ap (λ rs. get_or rs x []) e ∙ past types x q) l))
        where
          past : (ts : List Placed) (k : ℕ) → slice_get ts k ≡ None → get_or (map (links_numbered N heads by_name) ts) k [] ≡ []
          past [] k q = refl
          past (t ∷ ts) zero q = absurd cc
          past (t ∷ ts) (suc k) q = past ts k q
      within x y (Some t) q l =
          let r = linked_in (head_at heads x) t (head_here x t q) y (IsIn-from_Contains (links_numbered N heads by_name t) y (subst (λ ns. Contains ns y) (row_is x t q) l)) in
          let m = slice_get_within types y r.type r.here in
          let k = ap (λ rs. length rs) e ∙ length-map types (links_numbered N heads by_name) in
          omega arith
