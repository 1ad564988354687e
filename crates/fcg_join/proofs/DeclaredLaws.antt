-- The views of parts are valid, and their methods have names of the set.
use Rattle.std.proofs.Common.{◌≡◌, ℕ, zero, suc, ◌+◌, ◌<◌, List, [], ◌∷◌, ◌++◌, length, get_or, refl, sym, ap, subst, ◌∙◌, inl, inr, arith}
use Rattle.std.specs.Prelude.{not, All, Some, map, flat_map, find, slice_get, Contains}
use Rattle.std.proofs.lemmas.Option.{get_or_from_slice_get, slice_get_within}
use Rattle.fcg_grammar.specs.Table.{place}
use Rattle.fcg_grammar.proofs.Among.{Among, among_right, among_flat}
use Rattle.fcg_grammar.proofs.TableLaws.{place_at, table_rises}
use Rattle.fcg_views.specs.NamesIn.{names_of_super}
use Rattle.fcg_views.specs.declared.view.View.{View}
use Rattle.fcg_views.specs.declared.view.Method.{Method}
use Rattle.fcg_views.specs.Valid.{IsValid}
use Rattle.fcg_partial.specs.Parts.{PartShown}
use Rattle.fcg_partial.specs.Views.{names_of_method}
use Rattle.fcg_analysis.specs.Declarations.{Placed, is_named}
use Rattle.fcg_analysis.specs.Types.{winners, known, is_circular}
use Rattle.fcg_analysis.proofs.General.Members.{IsIn, IsIn-from_Contains, Contains-from_IsIn, find_in, in_filter}
use Rattle.fcg_analysis.proofs.General.Places.{place_of_member}
use Rattle.fcg_analysis.proofs.WinnerLaws.{is_type_self, winner_of, winners_distinct}
use Rattle.fcg_analysis.proofs.NameLaws.{find_type}
use Rattle.fcg_join.specs.Parts.{placed_view, placed_of, placed, types_of}
use Rattle.fcg_join.specs.SetNames.{all_names, set_names}
use Rattle.fcg_join.specs.Internal.TypeHeads.{IsHead, heads_of}
use Rattle.fcg_join.proofs.GraphRows.{among_item}
use Rattle.fcg_join.proofs.HeadLaws.{all_heads, named_in_set}
use Rattle.fcg_join.proofs.ZipLaws.{zip_right}

-- ---- the views of parts are valid
all_joined : {X : Type 0} (P : X → Type 0) (xs ys : List X) → All P xs → All P ys → All P (xs ++ ys)
all_joined P [] ys a b = b
all_joined {X} P (x ∷ xs) ys a b = at (all_joined P xs ys (λ k d l. a (suc k) d (omega arith)) b)
  where
    at : All P (xs ++ ys) → (k : ℕ) (d : X) → k < length (x ∷ (xs ++ ys)) → P (get_or (x ∷ (xs ++ ys)) k d)
    at r zero d l = a 0 x (omega arith)
    at r (suc k) d l = r k d (omega arith)

valid_views : (p : PartShown) (vs : List View) → All IsValid vs → All (λ (t : Placed). IsValid t.view) (map (placed_view p) vs)
valid_views p [] a = λ k d l. absurd (omega arith)
valid_views p (v ∷ vs) a = at (valid_views p vs (λ k d l. a (suc k) d (omega arith)))
  where
    at : All (λ (t : Placed). IsValid t.view) (map (placed_view p) vs) → (k : ℕ) (d : Placed) → k < length (map (placed_view p) (v ∷ vs)) → IsValid (get_or (map (placed_view p) (v ∷ vs)) k d).view
    at r zero d l = a 0 v (omega arith)
    at r (suc k) d l = r k d (omega arith)

pub valid_placed : (parts : List PartShown) → All (λ p. All IsValid p.views) parts → All (λ (t : Placed). IsValid t.view) (placed parts)
unfolding placed
valid_placed [] h = λ k d l. absurd (omega arith)
valid_placed (p ∷ ps) h = all_joined (λ (t : Placed). IsValid t.view) (placed_of p) (flat_map placed_of ps) (valid_views p p.views (h 0 p (omega arith))) (valid_placed ps (λ k d l. h (suc k) d (omega arith)))

-- ---- the names of methods
known_in : (views : List Placed) (t : Placed) → IsIn t (known views) → IsIn t views
unfolding known
known_in views t i =
    let w = in_filter (λ u. not (is_circular (winners views) u)) (winners views) t i in
    let first : find (is_named t.view.name) views ≡ Some t = sym (winner_of views t.view.name) ∙ find_type (winners views) (winners_distinct views) t.view.name t w.0 (is_type_self t) in
    (find_in (is_named t.view.name) views t first).0

module _ (parts : List PartShown) where
  abbrev N : List (List ℕ)
  N = set_names parts

  pub own_names : (x : Placed) → Contains (types_of parts) x → (j : ℕ) (m : Method) → slice_get x.view.methods j ≡ Some m → Among m.name N × Among m.desc N
  own_names x c j m s =
      let k = place_of_member (placed parts) x (Contains-from_IsIn (placed parts) x (known_in (placed parts) x (IsIn-from_Contains (types_of parts) x c))) in
      let r = zip_right (IsHead parts N) (heads_of N parts) (placed parts) (all_heads parts (heads_of N parts) refl) k.0 x k.1 in
      let is = r.2 in
      let own : slice_get is.view.methods j ≡ Some m = subst (λ (t : Placed). slice_get t.view.methods j ≡ Some m) (sym is.type_is) s in
      let among : (n : List ℕ) → Among n (names_of_method m) → Among n N = λ n a. named_in_set parts r.0.part r.0.place is.part is.view is.part_is is.view_is n
      (inr (among_right n (names_of_super is.view.superclass) _ (among_right n is.view.interfaces _ (among_right n _ _ (among_flat names_of_method m n is.view.methods (among_item is.view.methods j m own) a))))) in
      (among m.name (inl refl), among m.desc (inr (inl refl)))

  pub number_is : (k : ℕ) (n : List ℕ) → slice_get N k ≡ Some n → place N n ≡ k
  unfolding set_names
  number_is k n e = ap (place (set_names parts)) (sym (get_or_from_slice_get (set_names parts) k n [] e)) ∙ place_at (set_names parts) k [] (table_rises (all_names parts)) (slice_get_within (set_names parts) k n e)
