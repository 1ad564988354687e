-- Winners one by one, and links, what is above, gaps and what is at or below, by names.
use Rattle.std.proofs.Common.{◌≡◌, ℕ, List, [], ◌∷◌, ◌++◌, refl, sym, ap, subst, ◌∙◌, inl, inr}
use Rattle.std.specs.Prelude.{◌↔◌, Bool, true, false, not, cond, ◌&&◌, ◌||◌, filter, find, Option, Some, None, Contains, option_to_list, option_and_then, is_none}
use Rattle.std.specs.List.{list_any, IsDistinct}
use Rattle.std.specs.Cmp.{both_ways}
use Rattle.std.specs.Cmp.Lexicographic.{bytes_decides}
use Rattle.std.proofs.lemmas.Bool.{or_left, or_from, and_from, false_from_ne_true}
use Rattle.std.proofs.lemmas.List.{append-nil, append_assoc}
use Rattle.std.proofs.lemmas.List.Folds.{list_any-append}
use Rattle.std.proofs.Math.Bool.{or-false, or_assoc, and-true}
use Rattle.fcg_analysis.specs.NamesAndFlags.{same, contains}
use Rattle.fcg_analysis.specs.Walks.{Walk}
use Rattle.fcg_analysis.specs.Declarations.{Placed, object_name, is_named, is_type, is_class, is_interface, is_object, superclass_names, interface_names, names_of}
use Rattle.fcg_analysis.specs.Types.{winners, winners_after, known, type_named, object, links, implements, above, is_above, is_circular, superclass, uses_unlinked_name, has_gap, is_below}
use Rattle.fcg_analysis.specs.Laws.Statements.{IsAcyclic}
use Rattle.fcg_analysis.specs.Laws.ByName.{class_named, interface_passes, links_to, is_below_itself}
use Rattle.fcg_analysis.proofs.General.Members.{IsIn, IsIn-from_Contains, Contains-from_IsIn, filter_in, in_filter, any_in, in_any, find_in, find_none, kept, and_first, and_second}
use Rattle.fcg_analysis.proofs.General.Finding.{filter_alike, filter_all, any_or, find_more, find_only}
use Rattle.fcg_analysis.proofs.General.Sorted.{in_all}
use Rattle.fcg_analysis.proofs.General.Walking.{walk_from_led, led_from_walk, walk_end, any_led_goes_on, closed}
use Rattle.fcg_analysis.proofs.OverrideLaws.{one_of_name}
use Rattle.fcg_analysis.proofs.WinnerLaws.{is_type_self, is_type_back}

-- ---- winners

more_after : (earlier later : List Placed) (t : Placed) → winners_after earlier (later ++ t ∷ []) ≡ winners_after earlier later ++ cond (list_any (is_type t) (earlier ++ later)) [] (t ∷ [])
more_after earlier [] t = ap (λ es. cond (list_any (is_type t) es) [] (t ∷ [])) (sym (append-nil earlier))
more_after earlier (u ∷ us) t =
    at (list_any (is_type u) earlier) _ _ _
    (more_after (earlier ++ u ∷ []) us t ∙ ap (λ es. winners_after (earlier ++ u ∷ []) us ++ cond (list_any (is_type t) es) [] (t ∷ [])) (append_assoc earlier (u ∷ []) us))
  where
    at : (b : Bool) (vs ws zs : List Placed) → vs ≡ ws ++ zs → cond b vs (u ∷ vs) ≡ cond b ws (u ∷ ws) ++ zs
    at true vs ws zs e = e
    at false vs ws zs e = ap (λ xs. u ∷ xs) e

pub one_more : (views : List Placed) (t : Placed) → winners (views ++ t ∷ []) ≡ winners views ++ cond (list_any (is_type t) views) [] (t ∷ [])
unfolding winners
one_more views t = more_after [] views t

-- ---- known types

-- two types of a list have one name: they are one
pub same_name : (types : List Placed) → IsDistinct is_type types → (n : List ℕ) (x y : Placed) → IsIn x types → IsIn y types → is_named n x ≡ true → is_named n y ≡ true → x ≡ y
same_name types d n x y h i a b =
    one_of_name types x y d h i ((bytes_decides x.view.name y.view.name).1 (sym ((bytes_decides n x.view.name).0 a) ∙ (bytes_decides n y.view.name).0 b))

above_known : (types : List Placed) (t u : Placed) → IsIn u (above types t) → IsIn u types
unfolding above
above_known types t u h = IsIn-from_Contains types u (walk_end (walk_from_led links types t u (Contains-from_IsIn _ u h)))

-- being above by name is being above
pub above_from_name : (types : List Placed) → IsDistinct is_type types → (t u : Placed) → Contains types u → is_above types t u ≡ true → Contains (above types t) u
above_from_name types d t u c h =
    let v = in_any (is_type u) (above types t) h in
    let same : v.0 ≡ u = sym (one_of_name types u v.0 d (IsIn-from_Contains types u c) (above_known types t v.0 v.1) v.2) in
    subst (λ w. Contains (above types t) w) same (Contains-from_IsIn _ v.0 v.1)

pub name_from_above : (types : List Placed) (t u : Placed) → Contains (above types t) u → is_above types t u ≡ true
name_from_above types t u c = any_in (is_type u) (above types t) u (IsIn-from_Contains _ u c) (is_type_self u)

pub not_circular : (types : List Placed) → IsDistinct is_type types → (t : Placed) → Contains types t → (Walk links types t t → ⊥) → is_circular types t ≡ false
unfolding above
not_circular types d t c a = false_from_ne_true _ (λ h. a (walk_from_led links types t t (above_from_name types d t t c h)))

pub known_wins : (views : List Placed) → IsDistinct is_type (winners views) → (t : Placed) → Contains (known views) t ↔ (Contains (winners views) t × (Walk links (winners views) t t → ⊥))
unfolding known above
known_wins views d t = (
  λ c. (let r = in_filter (λ u. not (is_circular (winners views) u)) (winners views) t (IsIn-from_Contains _ t c) in
      (Contains-from_IsIn _ t r.0, λ w. (let k = name_from_above (winners views) t t (led_from_walk links (winners views) t t w) in let e = r.1 in cc))),
  λ h. Contains-from_IsIn _ t (filter_in (λ u. not (is_circular (winners views) u)) (winners views) t (IsIn-from_Contains _ t h.0) (ap not (not_circular (winners views) d t h.0 h.1))),
)

all_win : (earlier later : List Placed) → IsDistinct is_type later → ((t : Placed) → IsIn t later → list_any (is_type t) earlier ≡ false) → winners_after earlier later ≡ later
unfolding IsDistinct
all_win earlier [] d h = refl
all_win earlier (u ∷ us) d h =
    ap (λ b. cond b (winners_after (earlier ++ u ∷ []) us) (u ∷ winners_after (earlier ++ u ∷ []) us)) (h u (inl refl))
    ∙ ap (λ ws. u ∷ ws) (all_win (earlier ++ u ∷ []) us d.1 (λ t k.
    list_any-append (is_type t) earlier (u ∷ [])
    ∙ or_from _ _ (h t (inr k)) (or_from (is_type t u) false (is_type_back t u ∙ in_all (λ v. is_type u v ≡ false) us t d.0 k) refl)))

pub all_known : (views : List Placed) → IsDistinct is_type views → IsAcyclic views → known views ≡ views
unfolding known winners
all_known views d a =
    ap (λ types. filter (λ t. not (is_circular types t)) types) (all_win [] views d (λ t k. refl))
    ∙ filter_all (λ t. not (is_circular views t)) views (λ t k. ap not (not_circular views d t (Contains-from_IsIn views t k) (a t (Contains-from_IsIn views t k))))

-- ---- links

none_extends : (types : List Placed) → find (λ u. is_class u && false) types ≡ None
none_extends [] = refl
none_extends (u ∷ us) = ap (λ b. cond b (Some u) (find (λ v. is_class v && false) us)) (never (is_class u)) ∙ none_extends us
  where
    never : (b : Bool) → (b && false) ≡ false
    never true = refl
    never false = refl

-- the class of one name
class_of_one : (types : List Placed) → IsDistinct is_type types → (n : List ℕ) → find (λ u. is_class u && contains u.view.name (n ∷ [])) types ≡ class_named types (n ∷ [])
class_of_one types d n =
    find_more (is_named n) (λ u. is_class u && contains u.view.name (n ∷ [])) asks types (same_name types d n)
    ∙ at (type_named types n) refl
  where
    asks : (u : Placed) → (is_class u && contains u.view.name (n ∷ [])) ≡ true → is_named n u ≡ true
    asks u h =
        let e : same u.view.name n ≡ true = sym (or-false (same u.view.name n)) ∙ and_second (is_class u) (contains u.view.name (n ∷ [])) h in
        (bytes_decides n u.view.name).1 (sym ((bytes_decides u.view.name n).0 e))

    at : (o : Option Placed) → type_named types n ≡ o → kept (λ u. is_class u && contains u.view.name (n ∷ [])) o ≡ option_and_then (λ u. cond (is_class u) (Some u) None) o
    at None e = refl
    at (Some u) e =
        let k : same u.view.name n ≡ true = (bytes_decides u.view.name n).1 (sym ((bytes_decides n u.view.name).0 (find_in (is_named n) types u e).1)) in
        ap (λ b. cond (is_class u && (b || false)) (Some u) None) k ∙ ap (λ b. cond b (Some u) None) (and-true (is_class u))

pub superclass_by_name : (types : List Placed) → IsDistinct is_type types → (t : Placed) → superclass types t ≡ class_named types (superclass_names t)
superclass_by_name types d t = at (is_object t || is_interface t) t.view.superclass
  where
    at : (b : Bool) (o : Option (List ℕ)) → find (λ u. is_class u && contains u.view.name (cond b [] (option_to_list o))) types ≡ class_named types (cond b [] (option_to_list o))
    at true o = none_extends types
    at false None = none_extends types
    at false (Some n) = class_of_one types d n

-- the type of a name is found
pub find_type : (types : List Placed) → IsDistinct is_type types → (n : List ℕ) (u : Placed) → IsIn u types → is_named n u ≡ true → type_named types n ≡ Some u
find_type types d n u h k = find_only (is_named n) types u h k (λ y i e. same_name types d n y u i h e k)

pub interfaces_by_name : (types : List Placed) → IsDistinct is_type types → (p : Placed → Bool) (t : Placed) → list_any (λ u. implements t u && p u) types ≡ list_any (λ n. interface_passes p (type_named types n)) (interface_names t)
interfaces_by_name types d p t = both_ways (list_any (λ u. implements t u && p u) types) (list_any (λ n. interface_passes p (type_named types n)) (interface_names t)) forth back
  where
    forth : list_any (λ u. implements t u && p u) types ≡ true → list_any (λ n. interface_passes p (type_named types n)) (interface_names t) ≡ true
    forth h =
        let u = in_any (λ u. implements t u && p u) types h in
        let i = and_first (implements t u.0) (p u.0) u.2 in
        let n = in_any (same u.0.view.name) (interface_names t) (and_second (is_interface u.0) (contains u.0.view.name (interface_names t)) i) in
        let k : is_named n.0 u.0 ≡ true = (bytes_decides n.0 u.0.view.name).1 (sym ((bytes_decides u.0.view.name n.0).0 n.2)) in
        any_in (λ n. interface_passes p (type_named types n)) (interface_names t) n.0 n.1
        (ap (interface_passes p) (find_type types d n.0 u.0 u.1 k) ∙ and_from (is_interface u.0) (p u.0) (and_first (is_interface u.0) (contains u.0.view.name (interface_names t)) i) (and_second (implements t u.0) (p u.0) u.2))

    of_name : (n : List ℕ) → IsIn n (interface_names t) → (o : Option Placed) → type_named types n ≡ o → interface_passes p o ≡ true → list_any (λ u. implements t u && p u) types ≡ true
    of_name n i None e h = absurd (cc)
    of_name n i (Some u) e h =
        let f = find_in (is_named n) types u e in
        let k : same u.view.name n ≡ true = (bytes_decides u.view.name n).1 (sym ((bytes_decides n u.view.name).0 f.1)) in
        any_in (λ u. implements t u && p u) types u f.0
        (and_from (implements t u) (p u)
        (and_from (is_interface u) (contains u.view.name (interface_names t)) (and_first (is_interface u) (p u) h) (any_in (same u.view.name) (interface_names t) n i k))
        (and_second (is_interface u) (p u) h))

    back : list_any (λ n. interface_passes p (type_named types n)) (interface_names t) ≡ true → list_any (λ u. implements t u && p u) types ≡ true
    back h =
        let n = in_any (λ n. interface_passes p (type_named types n)) (interface_names t) h in
        of_name n.0 n.1 (type_named types n.0) refl n.2

-- ---- above, in the order of the types

pub above_in_order : (types : List Placed) → IsDistinct is_type types → (t : Placed) → above types t ≡ filter (is_above types t) types
unfolding above
above_in_order types d t = sym whole ∙ filter_alike is_up (is_above types t) types alike
  where
    is_up : Placed → Bool
    is_up u = links t u || list_any (λ v. links v u) (above types t)

    whole : filter is_up types ≡ above types t
    whole = closed links types t

    alike : (u : Placed) → IsIn u types → is_up u ≡ is_above types t u
    alike u h = both_ways (is_up u) (is_above types t u)
        (λ k. name_from_above types t u (Contains-from_IsIn _ u (subst (IsIn u) whole (filter_in is_up types u h k))))
        (λ k. (in_filter is_up types u (subst (IsIn u) (sym whole) (IsIn-from_Contains _ u (above_from_name types d t u (Contains-from_IsIn types u h) k)))).1)

-- ---- gaps

pub gap_goes_on : (types : List Placed) (t : Placed) → has_gap types t ≡ (is_none (object types) || uses_unlinked_name types t || list_any (λ u. links t u && has_gap types u) types)
unfolding has_gap above
gap_goes_on types t = at (is_none (object types))
  where
    at : (b : Bool) → (b || list_any (uses_unlinked_name types) (t ∷ above types t)) ≡ (b || uses_unlinked_name types t || list_any (λ u. links t u && (b || list_any (uses_unlinked_name types) (u ∷ above types u))) types)
    at true = refl
    at false = ap (λ b. uses_unlinked_name types t || b) (any_led_goes_on links types (uses_unlinked_name types) t)

-- a name is linked where the known type of the name is
pub linked_name : (types : List Placed) → IsDistinct is_type types → (t : Placed) (n : List ℕ) → list_any (λ u. is_named n u && links t u) types ≡ links_to t (type_named types n)
linked_name types d t n = at (type_named types n) refl
  where
    at : (o : Option Placed) → type_named types n ≡ o → list_any (λ u. is_named n u && links t u) types ≡ links_to t o
    at None e = false_from_ne_true (list_any (λ u. is_named n u && links t u) types)
        (λ h. (let r = in_any (λ u. is_named n u && links t u) types h in find_none (is_named n) types r.0 e r.1 (and_first (is_named n r.0) (links t r.0) r.2)))
    at (Some u) e =
        let f = find_in (is_named n) types u e in
        both_ways (list_any (λ u. is_named n u && links t u) types) (links t u)
        (λ h. (let r = in_any (λ u. is_named n u && links t u) types h in
        let one : r.0 ≡ u = same_name types d n r.0 u r.1 f.0 (and_first (is_named n r.0) (links t r.0) r.2) f.1 in
        sym (ap (links t) one) ∙ and_second (is_named n r.0) (links t r.0) r.2))
        (λ h. any_in (λ v. is_named n v && links t v) types u f.0 (and_from (is_named n u) (links t u) f.1 h))

pub unlinked_by_name : (types : List Placed) → IsDistinct is_type types → (t : Placed) → uses_unlinked_name types t ≡ list_any (λ n. not (links_to t (type_named types n))) (names_of t)
unlinked_by_name types d t = ap (λ f. list_any f (names_of t)) (λ i n. not (linked_name types d t n i))

-- ---- at or below a name

-- t has the name, or uses it and it is absent
abbrev mentions : List Placed → List ℕ → Placed → Bool
mentions types n t = is_named n t || (is_none (type_named types n) && contains n (names_of t))

pub below_put : (types : List Placed) (d : Placed) (n : List ℕ) → is_below types d n ≡ (same n object_name || list_any (mentions types n) (d ∷ above types d))
unfolding is_below
below_put types d n =
    or_assoc (same n object_name) (list_any (is_named n) (d ∷ above types d)) (is_none (type_named types n) && list_any (λ u. contains n (names_of u)) (d ∷ above types d))
    ∙ ap (λ b. same n object_name || b) (sym (any_or (is_named n) (λ u. contains n (names_of u)) (is_none (type_named types n)) (d ∷ above types d)))

pub below_goes_on : (types : List Placed) (d : Placed) (n : List ℕ) → is_below types d n ≡ (is_below_itself types d n || list_any (λ u. links d u && is_below types u n) types)
unfolding above
below_goes_on types d n =
    below_put types d n ∙ at (same n object_name) ∙ ap (λ f. is_below_itself types d n || list_any f types) (λ i u. links d u && sym (below_put types u n) i)
  where
    at : (s : Bool) → (s || list_any (mentions types n) (d ∷ above types d)) ≡ (s || is_named n d || is_none (type_named types n) && contains n (names_of d) || list_any (λ u. links d u && (s || list_any (mentions types n) (u ∷ above types u))) types)
    at true = refl
    at false = ap (λ b. mentions types n d || b) (any_led_goes_on links types (mentions types n) d)

pub below_known : (types : List Placed) (d u : Placed) → Contains types u → same u.view.name object_name ≡ false → is_below types d u.view.name ≡ (is_type u d || is_above types d u)
unfolding is_below
below_known types d u c e = at (same u.view.name object_name) (is_none (type_named types u.view.name)) e there
  where
    none : (o : Option Placed) → type_named types u.view.name ≡ o → is_none o ≡ false
    none None k = absurd (find_none (is_type u) types u k (IsIn-from_Contains types u c) (is_type_self u))
    none (Some v) k = refl

    there : is_none (type_named types u.view.name) ≡ false
    there = none (type_named types u.view.name) refl

    at : (s a : Bool) → s ≡ false → a ≡ false
        → (s || list_any (is_type u) (d ∷ above types d) || a && list_any (λ v. contains u.view.name (names_of v)) (d ∷ above types d)) ≡ (is_type u d || list_any (is_type u) (above types d))
    at true a p q = absurd (cc)
    at false true p q = absurd (cc)
    at false false p q = or-false (is_type u d || list_any (is_type u) (above types d))

pub below_object : (types : List Placed) (d : Placed) → is_below types d object_name ≡ true
below_object types d = below_put types d object_name ∙ or_left (same object_name object_name) (list_any (mentions types object_name) (d ∷ above types d)) ((bytes_decides object_name object_name).1 refl)
