-- What the tables of types say by numbers is what the definitions say.
use Rattle.std.proofs.Common.{◌≡◌, ℕ, ◌<◌, List, [], ◌∷◌, length, get_or, refl, sym, ap, subst, ◌∙◌, cond, drop}
use Rattle.std.specs.Prelude.{Bool, true, false, not, ◌&&◌, ◌||◌, All, Option, Some, None, IfSome, find, filter, option_to_list, slice_get, Contains}
use Rattle.std.specs.List.{IsDistinct, AllZip}
use Rattle.std.specs.Cmp.Lexicographic.{bytes_decides}
use Rattle.std.proofs.lemmas.Option.{get_or_from_slice_get, slice_get_within, slice_get-get_or, same_Some}
use Rattle.fcg_grammar.specs.Table.{place}
use Rattle.fcg_grammar.proofs.Among.{Among, Contains-among, among_at}
use Rattle.fcg_grammar.proofs.TableLaws.{place_at, table_rises}
use Rattle.fcg_partial.specs.Parts.{PartShown}
use Rattle.fcg_analysis.specs.NamesAndFlags.{same, first_of_list}
use Rattle.fcg_analysis.specs.Declarations.{Placed, is_named, is_type, is_object, is_interface, is_class, object_name}
use Rattle.fcg_analysis.specs.Types.{object, superclass, extends, type_named}
use Rattle.fcg_analysis.specs.Laws.Statements.{IsAcyclic, chain_above}
use Rattle.fcg_analysis.specs.Laws.ChainParts.{next_in_chain}
use Rattle.fcg_analysis.proofs.General.Members.{IsIn, IsIn-from_Contains, Contains-from_IsIn, find_in, and_first}
use Rattle.fcg_analysis.proofs.General.Finding.{find_only}
use Rattle.fcg_analysis.proofs.ChainLaws.{chain_goes_on}
use Rattle.fcg_analysis.proofs.OverrideLaws.{one_of_name}
use Rattle.fcg_join.specs.declared.heads.TypeHead.{TypeHead}
use Rattle.fcg_join.specs.SetNames.{all_names, set_names}
use Rattle.fcg_join.specs.Internal.TypeHeads.{IsHead, no_head, used_superclass}
use Rattle.fcg_join.specs.TypeLinks.{HasTypeAt}
use Rattle.fcg_join.specs.Internal.TypeNumbers.{AreHeads, FindsHeads, head_at, superclass_numbered}
use Rattle.fcg_join.specs.Joined.{IsTypeNumber}
use Rattle.fcg_join.specs.Internal.Tables.{is_object_class, next_numbered}
use Rattle.fcg_join.proofs.Places.{place_of, has_in}
use Rattle.fcg_join.proofs.ZipLaws.{zip_left, zip_right}
use Rattle.fcg_join.proofs.HeadLaws.{used_is, all_named}
use Rattle.fcg_join.proofs.LinkLaws.{super_is, super_at, number_of_type, type_of_number}

pub same_items : {X : Type 0} (xs ys : List X) → AllZip (λ x y. y ≡ x) xs ys → ys ≡ xs
same_items [] [] all = refl
same_items [] (y ∷ ys) all = absurd all
same_items (x ∷ xs) [] all = absurd all
same_items (x ∷ xs) (y ∷ ys) all = (let first = all.0 in let rest = same_items xs ys all.1 in λ i. first i ∷ rest i)

abbrev object_passes : Placed → Bool
object_passes t = is_object t && is_class t

module _ (parts : List PartShown) (heads : List TypeHead) (types : List Placed) (are : AreHeads parts heads types) (d : IsDistinct is_type types) where
  pub head_of_type : (y : ℕ) (u : Placed) → HasTypeAt types y u → IsHead parts (set_names parts) (head_at heads y) u
  head_of_type y u h =
      let z = zip_right (IsHead parts (set_names parts)) heads types are y u h in
      subst (λ (g : TypeHead). IsHead parts (set_names parts) g u) (sym (get_or_from_slice_get heads y z.0 no_head z.1)) z.2

  object_is : (y : ℕ) (u : Placed) → HasTypeAt types y u → is_object_class (head_at heads y) ≡ object_passes u
  object_is y u h = ap is_object_class (head_of_type y u h).head_is

  one_object : (u v : Placed) → IsIn u types → IsIn v types → object_passes u ≡ true → object_passes v ≡ true → v ≡ u
  one_object u v i j a b =
      let n : object_name ≡ u.view.name = (bytes_decides object_name u.view.name).0 (and_first (is_object u) (is_class u) a) in
      one_of_name types v u d j i ((bytes_decides v.view.name u.view.name).1 (sym ((bytes_decides object_name v.view.name).0 (and_first (is_object v) (is_class v) b)) ∙ n))

  pub gives_object : (o : Option ℕ) → IfSome o (λ y. (y < length heads) × (is_object_class (head_at heads y) ≡ true)) → (o ≡ None → All (λ h. is_object_class h ≡ false) heads)
      → IsTypeNumber types o (object types)
  gives_object None found none = at (find object_passes types) refl
    where
      at : (r : Option Placed) → find object_passes types ≡ r → IsTypeNumber types None r
      at None e = tt
      at (Some u) e =
          let f = find_in object_passes types u e in
          let p = place_of types u (Contains-from_IsIn types u f.0) in
          let z = zip_right (IsHead parts (set_names parts)) heads types are p.0 u p.1 in
          let off = none refl p.0 no_head (slice_get_within heads p.0 z.0 z.1) in
          let on = object_is p.0 u p.1 ∙ f.1 in
          absurd cc
  gives_object (Some y) found none =
      let u = zip_left (IsHead parts (set_names parts)) heads types are y (head_at heads y) (slice_get-get_or heads y no_head found.0) in
      let on : object_passes u.0 ≡ true = sym (object_is y u.0 u.1) ∙ found.1 in
      let i = IsIn-from_Contains types u.0 (has_in types y u.0 u.1) in
      let e : find object_passes types ≡ Some u.0 = find_only object_passes types u.0 i on (λ v j b. one_object u.0 v i j on b) in
      subst (λ (r : Option Placed). IsTypeNumber types (Some y) r) (sym e) u.1

  module _ (by_name : List (Option ℕ)) (f : FindsHeads heads by_name (length (set_names parts))) where
    pub gives_superclass : (y : ℕ) (t : Placed) → HasTypeAt types y t → (o : Option ℕ) → o ≡ superclass_numbered heads by_name (head_at heads y).superclass → IsTypeNumber types o (superclass types t)
    gives_superclass y t a o e = at o (sym (e ∙ ap (superclass_numbered heads by_name) (used_is parts h t is)))
      where
        h : TypeHead
        h = head_at heads y

        is : IsHead parts (set_names parts) (head_at heads y) t
        is = head_of_type y t a

        value : Option ℕ
        value = superclass_numbered heads by_name (used_superclass (set_names parts) t)

        none : value ≡ None → (r : Option Placed) → find (extends t) types ≡ r → IsTypeNumber types None r
        none q None e = tt
        none q (Some u) e =
            let g = find_in (extends t) types u e in
            let p = place_of types u (Contains-from_IsIn types u g.0) in
            let s = super_at parts heads types by_name are d f h t is p.0 u p.1 g.1 in
            absurd cc

        at : (o : Option ℕ) → value ≡ o → IsTypeNumber types o (superclass types t)
        at None q = none q (find (extends t) types) refl
        at (Some z) q =
            let r = super_is parts heads types by_name are d f h t is z q in
            let one : (v : Placed) → IsIn v types → extends t v ≡ true → v ≡ r.type = λ v j b. (
            let p = place_of types v (Contains-from_IsIn types v j) in
            let s = super_at parts heads types by_name are d f h t is p.0 v p.1 b in
            let k : p.0 ≡ z = same_Some p.0 z (sym s ∙ q) in
            same_Some v r.type (sym p.1 ∙ ap (slice_get types) k ∙ r.here)) in
            let e : find (extends t) types ≡ Some r.type = find_only (extends t) types r.type (IsIn-from_Contains types r.type (has_in types z r.type r.here)) r.passes one in
            subst (λ (r : Option Placed). IsTypeNumber types (Some z) r) (sym e) r.here

  -- ---- the next in a chain
  module _ (acyclic : IsAcyclic types) where
    pub gives_next : (t : Placed) → Contains types t → (s o : Option ℕ) → IsTypeNumber types s (superclass types t) → IsTypeNumber types o (object types)
        → IsTypeNumber types (next_numbered s (is_object t || is_interface t) o) (next_in_chain types t)
    gives_next t c s o a b =
        subst (λ (us : List Placed). IsTypeNumber types (next_numbered s (is_object t || is_interface t) o) (first_of_list (drop 1 us))) (sym (chain_goes_on types acyclic t c))
        (by_super s (superclass types t) refl a)
      where
        by_kind : (i j : Bool) (o' : ℕ) (u : Placed) → HasTypeAt types o' u
            → IsTypeNumber types (next_numbered None (j || i) (Some o')) (first_of_list (cond (not i && not j) (u ∷ []) []))
        by_kind true true o' u h = tt
        by_kind true false o' u h = tt
        by_kind false true o' u h = tt
        by_kind false false o' u h = h

        nothing : (b : Bool) → IsTypeNumber types (next_numbered None b None) None
        nothing true = tt
        nothing false = tt

        by_object : (o : Option ℕ) (r : Option Placed) → object types ≡ r → IsTypeNumber types o r
            → IsTypeNumber types (next_numbered None (is_object t || is_interface t) o) (first_of_list (filter (λ p. is_class t && not (is_type p t)) (option_to_list r)))
        by_object None None e h = nothing (is_object t || is_interface t)
        by_object (Some y) None e h = absurd h
        by_object None (Some u) e h = absurd h
        by_object (Some y) (Some u) e h =
            let g = find_in object_passes types u e in
            let n : object_name ≡ u.view.name = (bytes_decides object_name u.view.name).0 (and_first (is_object u) (is_class u) g.1) in
            let k : is_object t ≡ is_type u t = ap (λ m. same m t.view.name) n in
            subst (λ (b : Bool). IsTypeNumber types (next_numbered None (is_object t || is_interface t) (Some y)) (first_of_list (cond (is_class t && not b) (u ∷ []) []))) k
            (by_kind (is_interface t) (is_object t) y u h)

        by_super : (s : Option ℕ) (r : Option Placed) → superclass types t ≡ r → IsTypeNumber types s r
            → IsTypeNumber types (next_numbered s (is_object t || is_interface t) o) (first_of_list (chain_above types t r))
        by_super None None e h = by_object o (object types) refl b
        by_super (Some y) None e h = absurd h
        by_super None (Some u) e h = absurd h
        by_super (Some y) (Some u) e h =
            subst (λ (us : List Placed). IsTypeNumber types (Some y) (first_of_list us)) (sym (chain_goes_on types acyclic u (has_in types y u h))) h

-- ---- the type of a name
module _ (parts : List PartShown) (heads : List TypeHead) (types : List Placed) (are : AreHeads parts heads types) (d : IsDistinct is_type types)
    (by_name : List (Option ℕ)) (f : FindsHeads heads by_name (length (set_names parts))) (n : List ℕ) where
  one_named : (u : Placed) → IsIn u types → u.view.name ≡ n → (v : Placed) → IsIn v types → is_named n v ≡ true → v ≡ u
  one_named u i e v j b = one_of_name types v u d j i ((bytes_decides v.view.name u.view.name).1 (sym ((bytes_decides n v.view.name).0 b) ∙ sym e))

  pub gives_unnamed : (Contains (set_names parts) n → ⊥) → IsTypeNumber types None (type_named types n)
  gives_unnamed h = at (find (is_named n) types) refl
    where
      at : (r : Option Placed) → find (is_named n) types ≡ r → IsTypeNumber types None r
      at None e = tt
      at (Some u) e =
          let g = find_in (is_named n) types u e in
          let a = subst (λ (m : List ℕ). Among m (set_names parts)) (sym ((bytes_decides n u.view.name).0 g.1)) (all_named parts heads types are u g.0) in
          h (Contains-among n (set_names parts) a)

  pub gives_named : (k : ℕ) → slice_get (set_names parts) k ≡ Some n → IsTypeNumber types (get_or by_name k None) (type_named types n)
  unfolding set_names
  gives_named k e =
      let l = slice_get_within (set_names parts) k n e in
      let here = get_or_from_slice_get (set_names parts) k n [] e in
      let number : place (set_names parts) n ≡ k = ap (place (set_names parts)) (sym here) ∙ place_at (set_names parts) k [] (table_rises (all_names parts)) l in
      let a : Among n (set_names parts) = subst (λ (m : List ℕ). Among m (set_names parts)) here (among_at (set_names parts) k [] l) in
      at a (get_or by_name k None) (ap (λ i. get_or by_name i None) number)
    where
      none : get_or by_name (place (set_names parts) n) None ≡ None → (r : Option Placed) → find (is_named n) types ≡ r → IsTypeNumber types None r
      none q None e = tt
      none q (Some u) e =
          let g = find_in (is_named n) types u e in
          let p = place_of types u (Contains-from_IsIn types u g.0) in
          let s = number_of_type parts heads types by_name are d f p.0 u p.1 in
          let t : get_or by_name (place (set_names parts) n) None ≡ Some p.0 = ap (λ m. get_or by_name (place (set_names parts) m) None) ((bytes_decides n u.view.name).0 g.1) ∙ s in
          absurd cc

      at : Among n (set_names parts) → (o : Option ℕ) → get_or by_name (place (set_names parts) n) None ≡ o → IsTypeNumber types o (type_named types n)
      at a None q = none q (find (is_named n) types) refl
      at a (Some y) q =
          let r = type_of_number parts heads types by_name are d f n a y q in
          let i = IsIn-from_Contains types r.type (has_in types y r.type r.here) in
          let e : find (is_named n) types ≡ Some r.type = find_only (is_named n) types r.type i ((bytes_decides n r.type.view.name).1 (sym r.name)) (one_named r.type i r.name) in
          subst (λ (o : Option Placed). IsTypeNumber types (Some y) o) (sym e) r.here
