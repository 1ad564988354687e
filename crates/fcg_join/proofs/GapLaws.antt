-- Gaps by numbers are those of the definitions.
use Rattle.std.proofs.Common.{◌≡◌, ℕ, ◌<◌, List, [], ◌∷◌, ◌++◌, length, eqb, get_or, refl, sym, ap, subst, ◌∙◌, inl, inr, cond}
use Rattle.std.specs.Prelude.{map, Bool, true, false, not, ◌&&◌, ◌||◌, Option, Some, None, option_map, option_to_list, slice_get, All}
use Rattle.std.specs.List.{IsDistinct, list_any}
use Rattle.std.specs.Cmp.{both_ways}
use Rattle.std.specs.Cmp.Lexicographic.{bytes_decides}
use Rattle.std.proofs.lemmas.Bool.Decides.{Decides-eqb}
use Rattle.std.proofs.lemmas.Option.{get_or_from_slice_get, slice_get-map}
use Rattle.fcg_grammar.specs.Table.{place}
use Rattle.fcg_grammar.proofs.Among.{Among, among_at}
use Rattle.fcg_grammar.proofs.TableLaws.{at_place}
use Rattle.fcg_partial.specs.Parts.{PartShown}
use Rattle.fcg_views.specs.NamesIn.{names_of_super}
use Rattle.fcg_analysis.specs.NamesAndFlags.{same, contains}
use Rattle.fcg_analysis.specs.Declarations.{Placed, is_type, is_named, is_class, is_interface, is_object, superclass_names, interface_names}
use Rattle.fcg_analysis.specs.Types.{type_named, uses_unlinked_name}
use Rattle.fcg_analysis.specs.Laws.ByName.{links_to}
use Rattle.fcg_analysis.proofs.General.Members.{IsIn, IsIn-from_Contains, Contains-from_IsIn, any_in, find_in}
use Rattle.fcg_analysis.proofs.NameLaws.{find_type, unlinked_by_name}
use Rattle.fcg_join.specs.declared.heads.TypeHead.{TypeHead}
use Rattle.fcg_join.specs.SetNames.{set_names}
use Rattle.fcg_join.specs.Internal.TypeHeads.{IsHead}
use Rattle.fcg_join.specs.TypeLinks.{HasTypeAt}
use Rattle.fcg_join.specs.Internal.TypeNumbers.{AreHeads, FindsHeads, type_numbered}
use Rattle.fcg_join.specs.Joined.{IsTypeNumber}
use Rattle.fcg_join.specs.Internal.Gaps.{has_number, is_link, lacks_interface, lacks_superclass, lacks_link}
use Rattle.fcg_join.proofs.Firsts.{same_names}
use Rattle.fcg_join.proofs.Places.{place_of, has_in}
use Rattle.fcg_join.proofs.HeadLaws.{used_is, super_named, interfaces_named, all_of_map}
use Rattle.fcg_join.proofs.LinkLaws.{in_among, type_of_number, number_of_type, head_here, flags_are}

-- ---- lists

pub any_append : {X : Type 0} (p : X → Bool) (xs ys : List X) → list_any p (xs ++ ys) ≡ (list_any p xs || list_any p ys)
any_append p [] ys = refl
any_append p (x ∷ xs) ys = at (p x) (any_append p xs ys)
  where
    at : (b : Bool) → list_any p (xs ++ ys) ≡ (list_any p xs || list_any p ys) → (b || list_any p (xs ++ ys)) ≡ ((b || list_any p xs) || list_any p ys)
    at true e = refl
    at false e = e

-- what passes of the images of a list is what passes of the list
any_map : {X Y : Type 0} (f : X → Y) (p : Y → Bool) (q : X → Bool) (xs : List X) → ((x : X) → IsIn x xs → p (f x) ≡ q x) → list_any p (map f xs) ≡ list_any q xs
any_map f p q [] h = refl
any_map f p q (x ∷ xs) h = ap (λ b. b || list_any p (map f xs)) (h x (inl refl)) ∙ ap (λ b. q x || b) (any_map f p q xs (λ y i. h y (inr i)))

-- ---- numbers of names

module _ (N : List (List ℕ)) where
  one_number : (n m : List ℕ) → Among n N → Among m N → eqb (place N m) (place N n) ≡ same n m
  one_number n m a b = both_ways (eqb (place N m) (place N n)) (same n m)
      (λ e. (bytes_decides n m).1 (sym (same_names N m n b a ((Decides-eqb (place N m) (place N n)).0 e))))
      (λ e. (Decides-eqb (place N m) (place N n)).1 (ap (place N) (sym ((bytes_decides n m).0 e))))

  -- a number is among those of names where the name is
  pub number_among : (n : List ℕ) (ns : List (List ℕ)) → Among n N → ((m : List ℕ) → IsIn m ns → Among m N) → has_number (place N n) (map (place N) ns) ≡ contains n ns
  number_among n ns a h = any_map (place N) (λ k. eqb k (place N n)) (same n) ns (λ m i. one_number n m a (h m i))

  pub all_below : (ns : List (List ℕ)) → ((m : List ℕ) → Among m ns → Among m N) → All (λ k. k < length N) (map (place N) ns)
  all_below ns h = all_of_map (place N) (length N) ns (λ k d l. (at_place N (get_or ns k d) [] (h (get_or ns k d) (among_at ns k d l))).0)

among_in : (x : List ℕ) (xs : List (List ℕ)) → Among x xs → IsIn x xs
among_in x [] a = a
among_in x (y ∷ ys) (inl e) = inl e
among_in x (y ∷ ys) (inr a) = inr (among_in x ys a)

-- ---- the superclass name

module _ (parts : List PartShown) (h : TypeHead) (t : Placed) (is : IsHead parts (set_names parts) h t) where
  pub superclass_are : option_to_list h.superclass ≡ map (place (set_names parts)) (superclass_names t)
  superclass_are = ap (λ (o : Option ℕ). option_to_list o) (used_is parts h t is) ∙ at (is_object t || is_interface t) t.view.superclass
    where
      at : (b : Bool) (s : Option (List ℕ)) → option_to_list (cond b None (option_map (place (set_names parts)) s)) ≡ map (place (set_names parts)) (cond b [] (option_to_list s))
      at true s = refl
      at false None = refl
      at false (Some n) = refl

  pub superclass_named : (n : List ℕ) → IsIn n (superclass_names t) → Among n (set_names parts)
  superclass_named n i = at (is_object t || is_interface t) t.view.superclass (super_named parts h t is) i
    where
      at : (b : Bool) (s : Option (List ℕ)) → ((x : List ℕ) → Among x (names_of_super s) → Among x (set_names parts)) → IsIn n (cond b [] (option_to_list s)) → Among n (set_names parts)
      at true s a i = absurd i
      at false None a i = absurd i
      at false (Some m) a (inl e) = a n (inl e)
      at false (Some m) a (inr i) = absurd i

  pub interface_name_named : (n : List ℕ) → IsIn n (interface_names t) → Among n (set_names parts)
  interface_name_named n i = at (is_object t) (in_among n (interface_names t) i)
    where
      at : (b : Bool) → Among n (cond b [] t.view.interfaces) → Among n (set_names parts)
      at true a = absurd a
      at false a = interfaces_named parts h t is n a

  pub interfaces_all_below : All (λ k. k < length (set_names parts)) (map (place (set_names parts)) (interface_names t))
  interfaces_all_below = all_below (set_names parts) (interface_names t) (λ x a. at x (is_object t) a)
    where
      at : (x : List ℕ) (b : Bool) → Among x (cond b [] t.view.interfaces) → Among x (set_names parts)
      at x true a = absurd a
      at x false a = interfaces_named parts h t is x a

-- a mark of each type is that of its place
pub marks_at : (types : List Placed) (x : ℕ) (t : Placed) (marks : List Bool) → marks ≡ map (uses_unlinked_name types) types → HasTypeAt types x t → get_or marks x false ≡ uses_unlinked_name types t
marks_at types x t marks e a =
    get_or_from_slice_get marks x (uses_unlinked_name types t) false
    (ap (λ (ms : List Bool). slice_get ms x) e ∙ slice_get-map (uses_unlinked_name types) types x ∙ ap (option_map (uses_unlinked_name types)) a)

module _ (parts : List PartShown) (heads : List TypeHead) (types : List Placed) (by_name : List (Option ℕ))
    (are : AreHeads parts heads types) (d : IsDistinct is_type types) (f : FindsHeads heads by_name (length (set_names parts))) where
  abbrev N : List (List ℕ)
  N = set_names parts

  -- ---- the type of a name
  pub gives_named : (n : List ℕ) → Among n N → IsTypeNumber types (type_numbered by_name (place N n)) (type_named types n)
  gives_named n a = at (type_numbered by_name (place N n)) refl
    where
      none : type_numbered by_name (place N n) ≡ None → (r : Option Placed) → type_named types n ≡ r → IsTypeNumber types None r
      none q None e = tt
      none q (Some u) e =
          let g = find_in (is_named n) types u e in
          let p = place_of types u (Contains-from_IsIn types u g.0) in
          let k = number_of_type parts heads types by_name are d f p.0 u p.1 in
          let z : None ≡ Some p.0 = sym q ∙ ap (λ m. type_numbered by_name (place N m)) ((bytes_decides n u.view.name).0 g.1) ∙ k in
          absurd cc

      at : (o : Option ℕ) → type_numbered by_name (place N n) ≡ o → IsTypeNumber types o (type_named types n)
      at None q = none q (type_named types n) refl
      at (Some y) q =
          let r = type_of_number parts heads types by_name are d f n a y q in
          let e : type_named types n ≡ Some r.type = find_type types d n r.type (IsIn-from_Contains types r.type (has_in types y r.type r.here)) ((bytes_decides n r.type.view.name).1 (sym r.name)) in
          subst (λ (u : Option Placed). IsTypeNumber types (Some y) u) (sym e) r.here

  -- ---- a link to the type of a name
  by_kind : (b c i : Bool) → cond b i c ≡ (not b && c || b && i)
  by_kind true c i = refl
  by_kind false true i = refl
  by_kind false false i = refl

  is_link_to : (t : Placed) (n : List ℕ) → Among n N → (c i : Bool) → c ≡ contains n (superclass_names t) → i ≡ contains n (interface_names t)
      → is_link heads c i (type_numbered by_name (place N n)) ≡ links_to t (type_named types n)
  is_link_to t n a c i e g = at (type_numbered by_name (place N n)) (type_named types n) refl (gives_named n a)
    where
      at : (o : Option ℕ) (r : Option Placed) → type_named types n ≡ r → IsTypeNumber types o r → is_link heads c i o ≡ links_to t r
      at None None q h = refl
      at None (Some u) q h = absurd h
      at (Some y) None q h = absurd h
      at (Some y) (Some u) q h =
          let k = find_in (is_named n) types u q in
          let one : n ≡ u.view.name = (bytes_decides n u.view.name).0 k.1 in
          ap (λ b. cond b i c) (flags_are parts heads types by_name are d f y u (head_here parts heads types by_name are d f y u h))
          ∙ by_kind (is_interface u) c i
          ∙ ap (λ b. is_class u && b || is_interface u && i) (e ∙ ap (λ m. contains m (superclass_names t)) one)
          ∙ ap (λ b. is_class u && contains u.view.name (superclass_names t) || is_interface u && b) (g ∙ ap (λ m. contains m (interface_names t)) one)

  -- ---- a type without a link for a name
  module _ (h : TypeHead) (t : Placed) (is : IsHead parts N h t) where
    interface_named : (n : List ℕ) → IsIn n (interface_names t) → Among n N
    interface_named = interface_name_named parts h t is

    S : List ℕ
    S = map (place N) (superclass_names t)

    I : List ℕ
    I = map (place N) (interface_names t)

    abbrev unlinked : List ℕ → Bool
    unlinked n = not (links_to t (type_named types n))

    itself : (n : List ℕ) (ns : List (List ℕ)) → IsIn n ns → true ≡ contains n ns
    itself n ns i = sym (any_in (same n) ns n i ((bytes_decides n n).1 refl))

    by_interface : lacks_interface heads by_name S I ≡ list_any unlinked (interface_names t)
    unfolding S I
    by_interface = any_map (place N) (λ k. not (is_link heads (has_number k S) true (type_numbered by_name k))) unlinked (interface_names t)
        (λ n i. ap not (is_link_to t n (interface_named n i) (has_number (place N n) S) true (number_among N n (superclass_names t) (interface_named n i) (superclass_named parts h t is)) (itself n (interface_names t) i)))

    by_superclass : lacks_superclass heads by_name S I ≡ list_any unlinked (superclass_names t)
    unfolding S I
    by_superclass = any_map (place N) (λ k. not (is_link heads true (has_number k I) (type_numbered by_name k))) unlinked (superclass_names t)
        (λ n i. ap not (is_link_to t n (superclass_named parts h t is n i) true (has_number (place N n) I) (itself n (superclass_names t) i) (number_among N n (interface_names t) (superclass_named parts h t is n i) interface_named)))

    pub lacks_is : (interfaces : List ℕ) → interfaces ≡ map (place N) (interface_names t) → lacks_link heads by_name (option_to_list h.superclass) interfaces ≡ uses_unlinked_name types t
    unfolding S I
    lacks_is interfaces e =
        ap (λ (ns : List ℕ). lacks_link heads by_name ns interfaces) (superclass_are parts h t is)
        ∙ ap (lacks_link heads by_name S) e
        ∙ ap (λ b. b || lacks_superclass heads by_name S I) by_interface
        ∙ ap (λ b. list_any unlinked (interface_names t) || b) by_superclass
        ∙ sym (any_append unlinked (interface_names t) (superclass_names t))
        ∙ sym (unlinked_by_name types d t)
