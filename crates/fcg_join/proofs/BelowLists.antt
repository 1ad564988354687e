-- The numbers of the types at or below a name.
use Rattle.std.proofs.Common.{◌≡◌, ℕ, zero, suc, ◌+◌, ◌<◌, ◌≤◌, List, [], ◌∷◌, length, eqb, refl, sym, ap, subst, ◌∙◌, inl, inr, arith}
use Rattle.std.specs.Prelude.{Bool, true, false, not, ◌&&◌, ◌||◌, ◌↔◌, All, Option, Some, None, filter, map, slice_get, Contains, is_none, option_to_list}
use Rattle.std.specs.List.{list_any, IsDistinct, range_with_len}
use Rattle.std.specs.List.Sorted.{IsStrictlyIncreasing}
use Rattle.std.specs.Cmp.Lexicographic.{bytes_decides}
use Rattle.std.proofs.lemmas.Bool.{or_cases, or_left, or_right, and_from}
use Rattle.std.proofs.lemmas.List.Elements.{All-contains}
use Rattle.std.proofs.lemmas.Option.{slice_get_within}
use Rattle.fcg_analysis.specs.NamesAndFlags.{same, contains}
use Rattle.fcg_analysis.specs.Walks.{step}
use Rattle.fcg_analysis.specs.Declarations.{Placed, object_name, is_type, is_class, names_of}
use Rattle.fcg_analysis.specs.Types.{links, extends, implements, superclass, chain, object, type_named, is_below}
use Rattle.fcg_analysis.specs.Laws.Statements.{IsAcyclic, chain_above}
use Rattle.fcg_analysis.specs.Laws.ByName.{is_below_itself}
use Rattle.fcg_join.specs.Names.{text_at}
use Rattle.fcg_join.specs.TypeLinks.{HasTypeAt}
use Rattle.fcg_join.specs.TypeTables.{mentions_at, is_class_name, HasNames, AreUpwardRows, AreSubclasses}
use Rattle.fcg_analysis.proofs.General.Members.{IsIn-from_Contains, Contains-from_IsIn, any_in, in_any, in_filter, find_in}
use Rattle.fcg_analysis.proofs.General.Finding.{filter_alike, filter_all}
use Rattle.fcg_analysis.proofs.General.Numbered.{passes, rising_passing, range_rises}
use Rattle.fcg_analysis.proofs.General.Places.{some_at, same_at}
use Rattle.fcg_analysis.proofs.General.Ranges.{range_in, in_range}
use Rattle.fcg_analysis.proofs.BelowChains.{below_class, all_below_object}
use Rattle.fcg_analysis.proofs.ChainLaws.{chain_goes_on, object_says}
use Rattle.fcg_analysis.proofs.LineLaws.{height, height_less, height_small}
use Rattle.fcg_analysis.proofs.NameLaws.{below_goes_on}
use Rattle.fcg_analysis.proofs.OverrideLaws.{one_of_name}
use Rattle.fcg_analysis.proofs.WinnerLaws.{is_type_self}
use Rattle.fcg_join.proofs.Places.{place_of, has_in, one_place}
use Rattle.fcg_join.proofs.MentionRows.{any_number, below_by_row, below_unmentioned}

-- numbers that rise, and are those of the types at or below the name
pub below_listed : (types : List Placed) (n : List ℕ) (numbers : List ℕ) → IsStrictlyIncreasing numbers → All (λ x. x < length types) numbers
    → ((x : ℕ) (t : Placed) → HasTypeAt types x t → Contains numbers x ↔ (is_below types t n ≡ true))
    → map (slice_get types) numbers ≡ map Some (filter (λ t. is_below types t n) types)
below_listed types n numbers s w h =
    rising_passing (λ t. is_below types t n) types numbers s
    (λ x c. (let t = some_at types x (All-contains (λ x. x < length types) numbers x w c) in ap (passes (λ t. is_below types t n)) t.1 ∙ (h x t.0 t.1).0 c))
    (λ x t a e. (h x t a).1 e)

pub object_listed : (types : List Placed) → map (slice_get types) (range_with_len 0 (length types)) ≡ map Some (filter (λ t. is_below types t object_name) types)
object_listed types =
    rising_passing (λ t. true) types (range_with_len 0 (length types)) (range_rises 0 (length types))
    (λ x c. (let r : (0 ≤ x) × (x < 0 + length types) = in_range 0 (length types) x (IsIn-from_Contains _ x c) in
    let t = some_at types x (omega (arith, r.1)) in
    ap (passes (λ t. true)) t.1))
    (λ x t a e. (let l = slice_get_within types x t a in Contains-from_IsIn _ x (range_in 0 (length types) x (omega arith) (omega (arith, l)))))
    ∙ ap (map Some) (filter_all (λ t. true) types (λ t i. refl) ∙ sym (all_below_object types))

module _ (names : List (List ℕ)) (types : List Placed) where
  pub listed_by_rows : (rows : ℕ → List ℕ) → AreUpwardRows types (mentions_at names types) rows
      → (n : ℕ) (numbers : List ℕ) → n < length names → is_class_name types (text_at names n) ≡ false → same (text_at names n) object_name ≡ false
      → IsStrictlyIncreasing numbers → All (λ x. x < length types) numbers → ((x : ℕ) → x < length types → Contains numbers x ↔ Contains (rows x) n)
      → map (slice_get types) numbers ≡ map Some (filter (λ t. is_below types t (text_at names n)) types)
  listed_by_rows rows up n numbers l other not_object s w h = below_listed types (text_at names n) numbers s w each
    where
      says : (x : ℕ) (t : Placed) → HasTypeAt types x t → is_below types t (text_at names n) ≡ list_any (λ k. eqb k n) (rows x)
      says x t a = below_by_row names types t (rows x) (up x t a) n l other ∙ ap (λ b. b || list_any (λ k. eqb k n) (rows x)) not_object

      each : (x : ℕ) (t : Placed) → HasTypeAt types x t → Contains numbers x ↔ (is_below types t (text_at names n) ≡ true)
      each x t a =
          let i = h x (slice_get_within types x t a) in (
            λ c. says x t a ∙ (any_number n (rows x)).1 (i.0 c),
            λ e. i.1 ((any_number n (rows x)).0 (sym (says x t a) ∙ e)),
          )

  pub unmentioned_listed : HasNames names types → (n : List ℕ) → (Contains names n → ⊥) → same n object_name ≡ false → filter (λ t. is_below types t n) types ≡ []
  unmentioned_listed h n none not_object =
      filter_alike (λ t. is_below types t n) (λ t. false) types (λ t i. below_unmentioned names types h n none t (Contains-from_IsIn types t i) ∙ not_object) ∙ nothing types
    where
      nothing : (ts : List Placed) → filter (λ t. false) ts ≡ []
      nothing [] = refl
      nothing (t ∷ ts) = nothing ts

-- ---- subclasses

module _ (types : List Placed) (acyclic : IsAcyclic types) (distinct : IsDistinct is_type types) (x : ℕ) (u : Placed) (at_x : HasTypeAt types x u)
    (class' : is_class u ≡ true) (not_object : same u.view.name object_name ≡ false) (numbers : List ℕ) (down : AreSubclasses types x numbers) where
  linked : (t s : Placed) → superclass types t ≡ Some s → links t s ≡ true
  linked t s e = or_left (extends t s) (implements t s) (find_in (extends t) types s e).1

  lower : (z y : ℕ) (t s : Placed) → HasTypeAt types z t → HasTypeAt types y s → superclass types t ≡ Some s → height types acyclic s < height types acyclic t
  lower z y t s a b e = let d = has_in types y s b in height_less types acyclic s t (step d (linked t s e)) d

  -- what has the number of a subclass is at or below
  is_at_or_below : (k z : ℕ) (t : Placed) → HasTypeAt types z t → height types acyclic t < k → Contains numbers z → is_below types t u.view.name ≡ true
  is_at_or_below zero z t a l c = absurd (omega arith)
  is_at_or_below (suc k) z t a l c =
      elim (down.cause z t a c) [
        | inl e ↦ (let same_type : t ≡ u = same_at types x t u (subst (λ j. HasTypeAt types j t) e a) at_x in
            ap (λ v. is_below types v u.view.name) same_type ∙ below_goes_on types u u.view.name
            ∙ or_left (is_below_itself types u u.view.name) (list_any (λ v. links u v && is_below types v u.view.name) types)
            (or_left (same u.view.name object_name || is_type u u) (is_none (type_named types u.view.name) && contains u.view.name (names_of u)) (or_right (same u.view.name object_name) (is_type u u) (is_type_self u))))
        | inr r ↦ above (is_at_or_below k) r
      ]
    where
      above : ((y : ℕ) (s : Placed) → HasTypeAt types y s → height types acyclic s < k → Contains numbers y → is_below types s u.view.name ≡ true)
          → ((y : ℕ) × (s : Placed) × HasTypeAt types y s × (superclass types t ≡ Some s) × Contains numbers y) → is_below types t u.view.name ≡ true
      above r (y, s, b, e, d) =
          let less : height types acyclic s < height types acyclic t = lower z y t s a b e in
          let i : is_below types s u.view.name ≡ true = r y s b (omega arith) d in
          below_goes_on types t u.view.name
          ∙ or_right (is_below_itself types t u.view.name) (list_any (λ v. links t v && is_below types v u.view.name) types)
          (any_in (λ v. links t v && is_below types v u.view.name) types s (IsIn-from_Contains types s (has_in types y s b)) (and_from (links t s) (is_below types s u.view.name) (linked t s e) i))

  -- and a type whose chain has the class has such a number
  has_number : (k z : ℕ) (t : Placed) → HasTypeAt types z t → height types acyclic t < k → list_any (is_type u) (chain types t) ≡ true → Contains numbers z
  has_number zero z t a l h = absurd (omega arith)
  has_number (suc k) z t a l h =
      elim (or_cases (is_type u t) (list_any (is_type u) (chain_above types t (superclass types t))) (sym (ap (list_any (is_type u)) (chain_goes_on types acyclic t (has_in types z t a))) ∙ h)) [
        | inl e ↦ (let same_type : u ≡ t = one_of_name types u t distinct (IsIn-from_Contains types u (has_in types x u at_x)) (IsIn-from_Contains types t (has_in types z t a)) e in
            let p : x ≡ z = one_place types x z t distinct (subst (HasTypeAt types x) same_type at_x) a in
            subst (Contains numbers) p down.top)
        | inr e ↦ up (has_number k) (superclass types t) refl e
      ]
    where
      no_object : (o : Option Placed) → object types ≡ o → (p : Placed → Bool) → list_any (is_type u) (filter p (option_to_list o)) ≡ true → ⊥
      no_object None q p e = cc
      no_object (Some o) q p e =
          let v = in_any (is_type u) (filter p (o ∷ [])) e in
          elim (in_filter p (o ∷ []) v.0 v.1).0 [
            | inl i ↦ (let n : u.view.name ≡ o.view.name = (bytes_decides u.view.name o.view.name).0 (ap (is_type u) i ∙ v.2) in
                let m : object_name ≡ o.view.name = (bytes_decides object_name o.view.name).0 (object_says types o q).1 in
                let on : same u.view.name object_name ≡ true = (bytes_decides u.view.name object_name).1 (n ∙ sym m) in
                cc)
            | inr i ↦ i
          ]

      up : ((y : ℕ) (s : Placed) → HasTypeAt types y s → height types acyclic s < k → list_any (is_type u) (chain types s) ≡ true → Contains numbers y)
          → (o : Option Placed) → superclass types t ≡ o → list_any (is_type u) (chain_above types t o) ≡ true → Contains numbers z
      up r None q e = absurd (no_object (object types) refl (λ o. is_class t && not (is_type o t)) e)
      up r (Some s) q e =
          let p = place_of types s (Contains-from_IsIn types s (find_in (extends t) types s q).0) in
          let less : height types acyclic s < height types acyclic t = lower z p.0 t s a p.1 q in
          down.down p.0 z s t p.1 a q (r p.0 s p.1 (omega arith) e)

  pub subclasses_below : (z : ℕ) (t : Placed) → HasTypeAt types z t → Contains numbers z ↔ (is_below types t u.view.name ≡ true)
  subclasses_below z t a =
      let c = has_in types z t a in (
        λ i. is_at_or_below (length types) z t a (height_small types acyclic t c) i,
        λ e. has_number (length types) z t a (height_small types acyclic t c) (sym (below_class types acyclic distinct u (has_in types x u at_x) class' not_object t c) ∙ e),
      )
