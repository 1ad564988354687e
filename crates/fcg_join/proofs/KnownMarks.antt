-- The known types are the winners without a mark of circles.
use Rattle.std.proofs.Common.{◌≡◌, ℕ, suc, ◌<◌, List, [], ◌∷◌, length, get_or, refl, sym, ap, subst, ◌∙◌, arith}
use Rattle.std.specs.Prelude.{Bool, false, not, cond, filter, map}
use Rattle.std.specs.Cmp.{both_ways}
use Rattle.std.proofs.lemmas.List.{get_or-map, length-map}
use Rattle.std.proofs.lemmas.Option.{slice_get_within}
use Rattle.fcg_analysis.specs.Declarations.{Placed}
use Rattle.fcg_analysis.specs.Types.{winners, known, is_circular}
use Rattle.fcg_order.specs.Order.{MarksCircles}
use Rattle.fcg_join.specs.TypeLinks.{HasTypeAt, HasLinks}
use Rattle.fcg_join.specs.Winners.{marked}
use Rattle.fcg_analysis.proofs.WinnerLaws.{winners_distinct}
use Rattle.fcg_join.proofs.Circles.{circle_by_number, number_by_circle}

filter_keep : (p : Placed → Bool) (ms : List Bool) (ts : List Placed) → length ms ≡ length ts → ((x : ℕ) (t : Placed) → HasTypeAt ts x t → p t ≡ get_or ms x false) → filter p ts ≡ marked ms ts
filter_keep p [] [] l h = refl
filter_keep p [] (t ∷ ts) l h = absurd (omega arith)
filter_keep p (m ∷ ms) [] l h = refl
filter_keep p (m ∷ ms) (t ∷ ts) l h =
    ap (λ b. cond b (t ∷ filter p ts) (filter p ts)) (h 0 t refl)
    ∙ ap (λ us. cond m (t ∷ us) us) (filter_keep p ms ts (omega arith) (λ x u a. h (suc x) u a))

pub known_marks : (views : List Placed) (rows : List (List ℕ)) (circular : List Bool) → HasLinks (winners views) rows → MarksCircles rows circular
    → known views ≡ marked (map not circular) (winners views)
unfolding known
known_marks views rows circular h o =
    filter_keep (λ t. not (is_circular (winners views) t)) (map not circular) (winners views) (length-map circular not ∙ o.long ∙ h.long) each
  where
    each : (x : ℕ) (t : Placed) → HasTypeAt (winners views) x t → not (is_circular (winners views) t) ≡ get_or (map not circular) x false
    each x t a =
        let l : x < length rows = subst (λ n. x < n) (sym h.long) (slice_get_within (winners views) x t a) in
        let d = winners_distinct views in
        let same : is_circular (winners views) t ≡ get_or circular x false = both_ways (is_circular (winners views) t) (get_or circular x false)
        (λ e. (o.each x l).1 (number_by_circle (winners views) rows h d x t a e))
        (λ e. circle_by_number (winners views) rows h d x t a ((o.each x l).0 e)) in
        ap not same ∙ sym (get_or-map not circular x false false (subst (λ n. x < n) (sym o.long) l))
