-- The known type of a name.
use Rattle.std.proofs.Common.{◌≡◌, ℕ, List, refl, sym, ap, ◌∙◌}
use Rattle.std.specs.Prelude.{Bool, true, false, not, cond, find, Option, Some, None}
use Rattle.std.specs.Cmp.Lexicographic.{bytes_decides}
use Rattle.fcg_analysis.specs.Declarations.{Placed, is_named}
use Rattle.fcg_analysis.specs.Types.{winners, known, type_named, is_circular}
use Rattle.fcg_analysis.specs.Laws.Statements.{unless_circular}
use Rattle.fcg_analysis.proofs.General.Members.{IsIn, find_filter, kept}
use Rattle.fcg_analysis.proofs.OverrideLaws.{one_of_name}
use Rattle.fcg_analysis.proofs.WinnerLaws.{winner_of, winners_distinct}

pub known_of_name : (views : List Placed) (n : List ℕ) → type_named (known views) n ≡ unless_circular (winners views) (find (is_named n) views)
unfolding known
known_of_name views n =
    find_filter (is_named n) (λ t. not (is_circular types t)) types one ∙ ap (kept (λ t. not (is_circular types t))) (winner_of views n) ∙ same (find (is_named n) views)
  where
    types : List Placed
    types = winners views

    one : (x y : Placed) → IsIn x types → IsIn y types → is_named n x ≡ true → is_named n y ≡ true → x ≡ y
    one x y h k a b =
        one_of_name types x y (winners_distinct views) h k
        ((bytes_decides x.view.name y.view.name).1 (sym ((bytes_decides n x.view.name).0 a) ∙ (bytes_decides n y.view.name).0 b))

    flip : (b : Bool) (x y : Option Placed) → cond (not b) x y ≡ cond b y x
    flip true x y = refl
    flip false x y = refl

    same : (o : Option Placed) → kept (λ t. not (is_circular types t)) o ≡ unless_circular types o
    same None = refl
    same (Some t) = flip (is_circular types t) (Some t) None
