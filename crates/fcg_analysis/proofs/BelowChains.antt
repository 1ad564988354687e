-- At or below a known class are the types that have it in their chains.
use Rattle.std.proofs.Common.{◌≡◌, ℕ, List, [], ◌∷◌, drop, refl, sym, ap, subst, ◌∙◌, inl, inr}
use Rattle.std.specs.Prelude.{Bool, true, false, cond, ◌||◌, filter, Option, Some, None, Contains, option_to_list}
use Rattle.std.specs.List.{list_any, IsDistinct}
use Rattle.std.specs.Cmp.{both_ways}
use Rattle.std.specs.Cmp.Lexicographic.{bytes_decides}
use Rattle.std.proofs.lemmas.Bool.{or_cases, or_left, or_right}
use Rattle.std.proofs.Math.Bool.{or-false}
use Rattle.fcg_analysis.specs.NamesAndFlags.{same, contains}
use Rattle.fcg_analysis.specs.Walks.{Walk, step, onward}
use Rattle.fcg_analysis.specs.Declarations.{Placed, object_name, is_type, is_class, is_object, is_interface, superclass_names}
use Rattle.fcg_analysis.specs.Types.{links, extends, above, is_above, superclass, chain, is_below}
use Rattle.fcg_analysis.specs.Laws.Statements.{IsAcyclic, chain_above}
use Rattle.fcg_analysis.specs.Laws.ByName.{is_below_next}
use Rattle.fcg_analysis.specs.Laws.ChainParts.{next_in_chain, chain_of}
use Rattle.fcg_analysis.proofs.General.Members.{IsIn, IsIn-from_Contains, Contains-from_IsIn, and_second, any_in, in_any, append_right}
use Rattle.fcg_analysis.proofs.General.Finding.{filter_alike, filter_all, find_only}
use Rattle.fcg_analysis.proofs.General.Walking.{walk_from_led}
use Rattle.fcg_analysis.proofs.KindLaws.{walk_to_class}
use Rattle.fcg_analysis.proofs.ChainLaws.{chain_goes_on}
use Rattle.fcg_analysis.proofs.ChainParts.{chain_member, chain_shared, later_is_above}
use Rattle.fcg_analysis.proofs.ChainWalks.{chain_walked, next_known}
use Rattle.fcg_analysis.proofs.NameLaws.{above_from_name, name_from_above, below_known, below_object}
use Rattle.fcg_analysis.proofs.OverrideLaws.{one_of_name}
use Rattle.fcg_analysis.proofs.WinnerLaws.{is_type_self}

-- a type extends classes of one name
one_extended : (t u v : Placed) → extends t u ≡ true → extends t v ≡ true → is_type u v ≡ true
one_extended t u v h k =
    at (is_object t || is_interface t) t.view.superclass (and_second (is_class u) (contains u.view.name (superclass_names t)) h) (and_second (is_class v) (contains v.view.name (superclass_names t)) k)
  where
    at : (b : Bool) (o : Option (List ℕ)) → contains u.view.name (cond b [] (option_to_list o)) ≡ true → contains v.view.name (cond b [] (option_to_list o)) ≡ true → is_type u v ≡ true
    at true o e f = absurd (cc)
    at false None e f = absurd (cc)
    at false (Some n) e f =
        let a : u.view.name ≡ n = (bytes_decides u.view.name n).0 (sym (or-false (same u.view.name n)) ∙ e) in
        let b : v.view.name ≡ n = (bytes_decides v.view.name n).0 (sym (or-false (same v.view.name n)) ∙ f) in
        (bytes_decides u.view.name v.view.name).1 (a ∙ sym b)

-- the class that a type extends is its superclass
pub superclass_is : (types : List Placed) → IsDistinct is_type types → (t s : Placed) → Contains types s → extends t s ≡ true → superclass types t ≡ Some s
superclass_is types d t s c h =
    let i = IsIn-from_Contains types s c in
    find_only (extends t) types s i h (λ u k e. one_of_name types u s d k i (one_extended t u s e h))

module _ (types : List Placed) (acyclic : IsAcyclic types) (distinct : IsDistinct is_type types) where
  begins : (t : Placed) → Contains types t → IsIn t (chain types t)
  begins t c = subst (IsIn t) (sym (chain_goes_on types acyclic t c)) (inl refl)

  follows : (t s : Placed) → Contains types t → Contains types s → extends t s ≡ true → IsIn s (chain types t)
  follows t s c d h =
      let e : chain types t ≡ t ∷ chain types s = chain_goes_on types acyclic t c ∙ ap (λ o. t ∷ chain_above types t o) (superclass_is types distinct t s d h) in
      subst (IsIn s) (sym e) (inr (begins s d))

  in_chain : {t u : Placed} → Contains types t → Walk extends types t u → IsIn u (chain types t)
  in_chain {t = t} c (step {y = u} d h) = follows t u c d h
  in_chain {t = t} c (onward {y = u} {z = v} w d h) =
      let i = in_chain c w in
      let s = chain_shared types acyclic t u c i in
      subst (IsIn v) (sym s.whole) (append_right s.nearer (chain types u) v (follows u v (chain_member types acyclic t u c i) d h))

  module _ (u : Placed) (there : Contains types u) (class' : is_class u ≡ true) (not_object : same u.view.name object_name ≡ false) where
    has_in_chain : (d : Placed) → Contains types d → (is_type u d || is_above types d u) ≡ true → list_any (is_type u) (chain types d) ≡ true
    unfolding above
    has_in_chain d c h =
        elim (or_cases (is_type u d) (is_above types d u) h) [
          | inl e ↦ any_in (is_type u) (chain types d) d (begins d c) e
          | inr e ↦ (let w = walk_from_led links types d u (above_from_name types distinct d u there e) in
              any_in (is_type u) (chain types d) u (in_chain c (walk_to_class w class')) (is_type_self u))
        ]

    is_in_chain : (d : Placed) → Contains types d → list_any (is_type u) (chain types d) ≡ true → (is_type u d || is_above types d u) ≡ true
    is_in_chain d c h =
        let v = in_any (is_type u) (chain types d) h in
        let same_type : u ≡ v.0 = one_of_name types u v.0 distinct (IsIn-from_Contains types u there) (IsIn-from_Contains types v.0 (chain_member types acyclic d v.0 c v.1)) v.2 in
        let g = chain_goes_on types acyclic d c in
        let i : IsIn v.0 (d ∷ chain_above types d (superclass types d)) = subst (IsIn v.0) g v.1 in
        elim i [
          | inl e ↦ or_left (is_type u d) (is_above types d u) (ap (is_type u) e ∙ v.2)
          | inr k ↦ (elim (later_is_above types acyclic d v.0 c (subst (λ xs. Contains (drop 1 xs) v.0) (sym g) (Contains-from_IsIn _ v.0 k))) [
            | inl a ↦ or_right (is_type u d) (is_above types d u) (ap (is_above types d) same_type ∙ name_from_above types d v.0 a)
            | inr o ↦ absurd (
                let name : object_name ≡ u.view.name = (bytes_decides object_name v.0.view.name).0 o ∙ ap (λ t. t.view.name) (sym same_type) in
                let on : same u.view.name object_name ≡ true = (bytes_decides u.view.name object_name).1 (sym name) in
                cc)
          ])
        ]

    pub below_class : (d : Placed) → Contains types d → is_below types d u.view.name ≡ list_any (is_type u) (chain types d)
    below_class d c =
        below_known types d u there not_object
        ∙ both_ways (is_type u d || is_above types d u) (list_any (is_type u) (chain types d)) (has_in_chain d c) (is_in_chain d c)

    pub below_class_goes_on : (d : Placed) → Contains types d → is_below types d u.view.name ≡ (is_type u d || is_below_next types u.view.name (next_in_chain types d))
    below_class_goes_on d c =
        below_class d c ∙ ap (list_any (is_type u)) (chain_walked types acyclic d c) ∙ ap (λ b. is_type u d || b) (at (next_in_chain types d) refl)
      where
        at : (o : Option Placed) → next_in_chain types d ≡ o → list_any (is_type u) (chain_of types o) ≡ is_below_next types u.view.name o
        at None e = refl
        at (Some v) e = sym (below_class v (next_known types acyclic d v c e))

    pub all_below_class : filter (λ d. is_below types d u.view.name) types ≡ filter (λ d. list_any (is_type u) (chain types d)) types
    all_below_class =
        filter_alike (λ d. is_below types d u.view.name) (λ d. list_any (is_type u) (chain types d)) types (λ d i. below_class d (Contains-from_IsIn types d i))

pub all_below_object : (types : List Placed) → filter (λ d. is_below types d object_name) types ≡ types
all_below_object types = filter_all (λ d. is_below types d object_name) types (λ d i. below_object types d)
