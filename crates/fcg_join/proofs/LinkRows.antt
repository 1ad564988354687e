-- Rows of links, by the names that types use.
use Rattle.std.proofs.Common.{◌≡◌, ℕ, zero, suc, ◌<◌, List, [], ◌∷◌, length, get_or, refl, sym, ap, subst, ◌∙◌, inl, inr, arith}
use Rattle.std.specs.Prelude.{Bool, true, false, cond, ◌↔◌, Option, Some, None, flat_map, map, option_and_then, option_to_list, slice_get, Contains}
use Rattle.std.specs.List.{IsDistinct}
use Rattle.std.specs.Cmp.Lexicographic.{bytes_decides}
use Rattle.std.proofs.lemmas.Bool.{or_cases, or_left, or_right, and_from}
use Rattle.std.proofs.lemmas.Option.{slice_get_within}
use Rattle.fcg_analysis.specs.NamesAndFlags.{same, contains}
use Rattle.fcg_analysis.specs.Declarations.{Placed, is_named, is_type, is_interface, superclass_names, interface_names}
use Rattle.fcg_analysis.specs.Types.{type_named, links, extends, implements}
use Rattle.fcg_analysis.specs.Laws.ByName.{class_named}
use Rattle.fcg_order.specs.Links.{row, HasLink}
use Rattle.fcg_join.specs.TypeLinks.{HasTypeAt, HasLinks, interface_named, linked_types}
use Rattle.fcg_analysis.proofs.General.Members.{IsIn, IsIn-from_Contains, Contains-from_IsIn, and_first, and_second, any_in, in_any, find_in, map_in, in_map, append_left, append_right, in_append, in_flat_map, flat_map_in}
use Rattle.fcg_analysis.proofs.General.Places.{some_at}
use Rattle.fcg_analysis.proofs.BelowChains.{superclass_is}
use Rattle.fcg_analysis.proofs.NameLaws.{superclass_by_name, find_type}
use Rattle.fcg_join.proofs.Places.{has_in, one_place}

-- ---- members

in_option : {X : Type 0} (o : Option X) (x : X) → IsIn x (option_to_list o) → o ≡ Some x
in_option None x h = absurd h
in_option (Some y) x (inl e) = ap Some e
in_option (Some y) x (inr h) = absurd h

option_in : {X : Type 0} (o : Option X) (x : X) → o ≡ Some x → IsIn x (option_to_list o)
option_in o x e = subst (λ v. IsIn x (option_to_list v)) (sym e) (inl refl)

-- ---- the types to which a type links

module _ (types : List Placed) (distinct : IsDistinct is_type types) where
  named_is : (n : List ℕ) (u : Placed) → interface_named types n ≡ Some u → IsIn u types × (is_named n u ≡ true) × (is_interface u ≡ true)
  named_is n u e = at (type_named types n) refl e
    where
      at : (o : Option Placed) → type_named types n ≡ o → option_and_then (λ v. cond (is_interface v) (Some v) None) o ≡ Some u → IsIn u types × (is_named n u ≡ true) × (is_interface u ≡ true)
      at None q k = absurd (cc)
      at (Some v) q k = go (is_interface v) refl k
        where
          go : (b : Bool) → is_interface v ≡ b → cond b (Some v) None ≡ Some u → IsIn u types × (is_named n u ≡ true) × (is_interface u ≡ true)
          go false i j = absurd (cc)
          go true i j =
              let same_type : v ≡ u = cc in
              let f = find_in (is_named n) types v q in
              subst (λ w. IsIn w types × (is_named n w ≡ true) × (is_interface w ≡ true)) same_type (f.0, f.1, i)

  is_named_interface : (n : List ℕ) (u : Placed) → IsIn u types → is_named n u ≡ true → is_interface u ≡ true → interface_named types n ≡ Some u
  is_named_interface n u i k e =
      ap (option_and_then (λ v. cond (is_interface v) (Some v) None)) (find_type types distinct n u i k) ∙ ap (λ b. cond b (Some u) None) e

  abbrev named_interfaces : Placed → List Placed
  named_interfaces t = flat_map (λ n. option_to_list (interface_named types n)) (interface_names t)

  pub linked_is : (t u : Placed) → Contains (linked_types types t) u ↔ (Contains types u × (links t u ≡ true))
  linked_is t u = (forth, back)
    where
      by_class : class_named types (superclass_names t) ≡ Some u → Contains types u × (links t u ≡ true)
      by_class e =
          let f = find_in (extends t) types u (superclass_by_name types distinct t ∙ e) in
          (Contains-from_IsIn types u f.0, or_left (extends t u) (implements t u) f.1)

      by_interface : (n : List ℕ) → IsIn n (interface_names t) → interface_named types n ≡ Some u → Contains types u × (links t u ≡ true)
      by_interface n i e =
          let r = named_is n u e in
          let name : same u.view.name n ≡ true = (bytes_decides u.view.name n).1 (sym ((bytes_decides n u.view.name).0 r.1)) in (
            Contains-from_IsIn types u r.0,
            or_right (extends t u) (implements t u) (and_from (is_interface u) (contains u.view.name (interface_names t)) r.2 (any_in (same u.view.name) (interface_names t) n i name)),
          )

      forth : Contains (linked_types types t) u → Contains types u × (links t u ≡ true)
      forth c =
          elim (in_append (named_interfaces t) (option_to_list (class_named types (superclass_names t))) u (IsIn-from_Contains _ u c)) [
            | inl i ↦ (let n = in_flat_map (λ n. option_to_list (interface_named types n)) (interface_names t) u i in by_interface n.0 n.1 (in_option (interface_named types n.0) u n.2))
            | inr i ↦ by_class (in_option (class_named types (superclass_names t)) u i)
          ]

      back : Contains types u × (links t u ≡ true) → Contains (linked_types types t) u
      back h =
          let i = IsIn-from_Contains types u h.0 in
          elim (or_cases (extends t u) (implements t u) h.1) [
            | inl e ↦ Contains-from_IsIn _ u (append_right (named_interfaces t) (option_to_list (class_named types (superclass_names t))) u
                (option_in (class_named types (superclass_names t)) u (sym (superclass_by_name types distinct t) ∙ superclass_is types distinct t u h.0 e)))
            | inr e ↦ (let n = in_any (same u.view.name) (interface_names t) (and_second (is_interface u) (contains u.view.name (interface_names t)) e) in
                let name : is_named n.0 u ≡ true = (bytes_decides n.0 u.view.name).1 (sym ((bytes_decides u.view.name n.0).0 n.2)) in
                Contains-from_IsIn _ u (append_left (named_interfaces t) (option_to_list (class_named types (superclass_names t))) u
                (flat_map_in (λ n. option_to_list (interface_named types n)) (interface_names t) n.0 u n.1
                (option_in (interface_named types n.0) u (is_named_interface n.0 u i name (and_first (is_interface u) (contains u.view.name (interface_names t)) e))))))
          ]

  -- ---- their numbers

  module _ (rows : List (List ℕ)) (long : length rows ≡ length types) (each : (x : ℕ) (t : Placed) → HasTypeAt types x t → map (slice_get types) (row rows x) ≡ map Some (linked_types types t)) where
    -- a number of a row is that of a type to which the row's type links
    in_row : (x y : ℕ) (t : Placed) → HasTypeAt types x t → HasLink rows x y → (u : Placed) × HasTypeAt types y u × Contains (linked_types types t) u
    in_row x y t a l =
        let i : IsIn (slice_get types y) (map Some (linked_types types t)) = subst (IsIn (slice_get types y)) (each x t a) (map_in (slice_get types) (row rows x) y (IsIn-from_Contains _ y l)) in
        let u = in_map Some (linked_types types t) (slice_get types y) i in
        (u.0, sym u.2, Contains-from_IsIn _ u.0 u.1)

    row_in : (x y : ℕ) (t u : Placed) → HasTypeAt types x t → HasTypeAt types y u → Contains (linked_types types t) u → HasLink rows x y
    row_in x y t u a b c =
        let i : IsIn (Some u) (map (slice_get types) (row rows x)) = subst (IsIn (Some u)) (sym (each x t a)) (map_in Some (linked_types types t) u (IsIn-from_Contains _ u c)) in
        let z = in_map (slice_get types) (row rows x) (Some u) i in
        subst (HasLink rows x) (one_place types z.0 y u distinct z.2 b) (Contains-from_IsIn _ z.0 z.1)

    -- a row that has a number is that of a type
    row_type : (x y : ℕ) → HasLink rows x y → (t : Placed) × HasTypeAt types x t
    row_type x y l = some_at types x (subst (λ n. x < n) long (at rows x l.1))
      where
        at : (rs : List (List ℕ)) (k : ℕ) → l.0 < length (get_or rs k []) → k < length rs
        at [] k m = absurd (omega arith)
        at (r ∷ rs) zero m = omega arith
        at (r ∷ rs) (suc k) m = let n : k < length rs = at rs k m in omega arith

    pub links_of_rows : HasLinks types rows
    links_of_rows = record {
      long = long;
      within = record { each = λ x y l. (let t = row_type x y l in let u = in_row x y t.0 t.1 l in subst (λ n. y < n) (sym long) (slice_get_within types y u.0 u.1)) };
      each = λ x y t u a b. (
        λ l. (let v = in_row x y t a l in let c = (linked_is t v.0).0 v.2 in
            let same_type : v.0 ≡ u = (let e : Some v.0 ≡ Some u = sym v.1 ∙ b in cc) in
            subst (λ w. links t w ≡ true) same_type c.1),
        λ e. row_in x y t u a b ((linked_is t u).1 (has_in types y u b, e)),
      );
    }
