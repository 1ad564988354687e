-- Gaps, and what is at or below a name, from tables that are filled upward.
use Rattle.std.proofs.Common.{◌≡◌, ℕ, List, ◌∷◌, refl, sym, ap, ◌∙◌}
use Rattle.std.specs.Prelude.{Bool, true, false, ◌&&◌, ◌||◌, Contains, is_none}
use Rattle.std.specs.List.{list_any}
use Rattle.fcg_analysis.specs.NamesAndFlags.{same, contains}
use Rattle.fcg_analysis.specs.Declarations.{Placed, object_name, is_named, names_of}
use Rattle.fcg_analysis.specs.Types.{above, type_named, object, uses_unlinked_name, has_gap, is_below}
use Rattle.fcg_analysis.specs.Laws.Statements.{IsAcyclic}
use Rattle.fcg_join.specs.TypeTables.{mentions, IsUpward}
use Rattle.fcg_analysis.proofs.General.Finding.{any_or}
use Rattle.fcg_join.proofs.Upward.{upward}

pub gap_by_table : (types : List Placed) (g : Placed → Bool) → IsAcyclic types → IsUpward types (uses_unlinked_name types) g → (t : Placed) → Contains types t → has_gap types t ≡ (is_none (object types) || g t)
unfolding has_gap
gap_by_table types g a up t c = ap (λ b. is_none (object types) || b) (sym (upward types a (uses_unlinked_name types) g up t c))

pub below_by_table : (types : List Placed) (n : List ℕ) (g : Placed → Bool) → IsAcyclic types → IsUpward types (mentions types n) g → (d : Placed) → Contains types d → is_below types d n ≡ (same n object_name || g d)
unfolding is_below
below_by_table types n g a up d c =
    or_joined (same n object_name) (list_any (is_named n) (d ∷ above types d)) (is_none (type_named types n) && list_any (λ u. contains n (names_of u)) (d ∷ above types d))
    ∙ ap (λ b. same n object_name || b)
    (sym (upward types a (mentions types n) g up d c ∙ any_or (is_named n) (λ u. contains n (names_of u)) (is_none (type_named types n)) (d ∷ above types d)))
  where
    or_joined : (a b c : Bool) → ((a || b) || c) ≡ (a || (b || c))
    or_joined true b c = refl
    or_joined false b c = refl
