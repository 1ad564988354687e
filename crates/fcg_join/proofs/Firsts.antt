-- Winners by the numbers of names.
use Rattle.std.proofs.Common.{◌≡◌, ℕ, List, [], ◌∷◌, ◌++◌, get_or, refl, sym, ap, ◌∙◌, inl, inr, eqb}
use Rattle.std.specs.Prelude.{Bool, true, false, not, cond, map, ◌||◌}
use Rattle.std.specs.List.{list_any}
use Rattle.std.specs.Cmp.{both_ways}
use Rattle.std.specs.Cmp.Lexicographic.{bytes_decides}
use Rattle.std.proofs.lemmas.Bool.Decides.{Decides-eqb}
use Rattle.std.proofs.lemmas.List.{map_push}
use Rattle.fcg_grammar.specs.Table.{place}
use Rattle.fcg_grammar.proofs.Among.{Among}
use Rattle.fcg_grammar.proofs.TableLaws.{at_place}
use Rattle.fcg_analysis.specs.Declarations.{Placed, is_type}
use Rattle.fcg_analysis.specs.Types.{winners, winners_after}
use Rattle.fcg_join.specs.Winners.{name_number, first_marks_after, marked}
use Rattle.fcg_analysis.proofs.General.Members.{IsIn}

module _ (all : List (List ℕ)) where
  -- numbers of names that stand in the list are equal where the names are
  pub same_names : (m n : List ℕ) → Among m all → Among n all → place all m ≡ place all n → m ≡ n
  same_names m n a b e = sym (at_place all m [] a).1 ∙ ap (λ k. get_or all k []) e ∙ (at_place all n [] b).1

  Have : List Placed → Type 0
  Have ts = (t : Placed) → IsIn t ts → Among t.view.name all

  pub same_type : (t u : Placed) → Among t.view.name all → Among u.view.name all → is_type t u ≡ eqb (name_number all u) (name_number all t)
  same_type t u a b = both_ways (is_type t u) (eqb (name_number all u) (name_number all t))
      (λ e. (Decides-eqb (name_number all u) (name_number all t)).1 (ap (place all) (sym ((bytes_decides t.view.name u.view.name).0 e))))
      (λ e. (bytes_decides t.view.name u.view.name).1 (sym (same_names u.view.name t.view.name b a ((Decides-eqb (name_number all u) (name_number all t)).0 e))))

  any_same : (t : Placed) (us : List Placed) → Among t.view.name all → Have us → list_any (is_type t) us ≡ list_any (λ m. eqb m (name_number all t)) (map (name_number all) us)
  unfolding Have
  any_same t [] a h = refl
  any_same t (u ∷ us) a h = ap (λ b. b || list_any (is_type t) us) (same_type t u a (h u (inl refl))) ∙ ap (λ b. eqb (name_number all u) (name_number all t) || b) (any_same t us a (λ v i. h v (inr i)))

  first_after : (earlier later : List Placed) → Have earlier → Have later → winners_after earlier later ≡ marked (first_marks_after (map (name_number all) earlier) (map (name_number all) later)) later
  unfolding Have
  first_after earlier [] h k = refl
  first_after earlier (t ∷ later) h k =
      at (list_any (is_type t) earlier) (list_any (λ m. eqb m (name_number all t)) (map (name_number all) earlier)) (any_same t earlier (k t (inl refl)) h)
      (first_after (earlier ++ t ∷ []) later (more earlier h) (λ v i. k v (inr i)) ∙ ap (λ ns. marked (first_marks_after ns (map (name_number all) later)) later) (map_push (name_number all) earlier t))
    where
      more : (es : List Placed) → ((u : Placed) → IsIn u es → Among u.view.name all) → (v : Placed) → IsIn v (es ++ t ∷ []) → Among v.view.name all
      more [] g v (inl e) = k v (inl e)
      more [] g v (inr e) = absurd e
      more (e ∷ es) g v (inl i) = g v (inl i)
      more (e ∷ es) g v (inr i) = more es (λ w j. g w (inr j)) v i

      at : (b c : Bool) → b ≡ c → {ws vs : List Placed} → ws ≡ vs → cond b ws (t ∷ ws) ≡ cond (not c) (t ∷ vs) vs
      at true true e q = q
      at false false e q = ap (λ xs. t ∷ xs) q
      at true false e q = absurd (cc)
      at false true e q = absurd (cc)

  pub first_winners : (views : List Placed) → ((t : Placed) → IsIn t views → Among t.view.name all) → winners views ≡ marked (first_marks_after [] (map (name_number all) views)) views
  unfolding winners Have
  first_winners views h = first_after [] views (λ t i. absurd i) h
