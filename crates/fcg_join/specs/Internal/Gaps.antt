-- Gaps by numbers.
use Rattle.std.specs.Prelude.{◌≡◌, ℕ, List, Option, Some, None, Bool, true, false, not, ◌||◌, ◌==◌, length, slice_index_or, if◌then◌else◌}
use Rattle.std.specs.List.{list_any}
use Rattle.fcg_analysis.specs.NamesAndFlags.{has}
use Rattle.fcg_analysis.specs.Declarations.{Placed}
use Rattle.fcg_analysis.specs.Types.{above, uses_unlinked_name}
use Rattle.fcg_join.specs.declared.heads.TypeHead.{TypeHead}
use Rattle.fcg_join.specs.TypeLinks.{HasTypeAt}
use Rattle.fcg_join.specs.Internal.TypeNumbers.{head_at, type_numbered}

-- one of the numbers is n
abbrev pub has_number : ℕ → List ℕ → Bool
has_number n numbers = list_any (λ k. k == n) numbers

-- whether a type links to the type of a name that it uses, as its superclass or as an interface
abbrev pub is_link : List TypeHead → Bool → Bool → Option ℕ → Bool
is_link heads as_superclass as_interface None = false
is_link heads as_superclass as_interface (Some y) = if has 0x0200 (head_at heads y).flags then as_interface else as_superclass

-- one of the names of these interfaces has no link
abbrev pub lacks_interface : List TypeHead → List (Option ℕ) → List ℕ → List ℕ → Bool
lacks_interface heads by_name superclasses interfaces =
    list_any (λ n. not (is_link heads (has_number n superclasses) true (type_numbered by_name n))) interfaces

abbrev pub lacks_superclass : List TypeHead → List (Option ℕ) → List ℕ → List ℕ → Bool
lacks_superclass heads by_name superclasses interfaces =
    list_any (λ n. not (is_link heads true (has_number n interfaces) (type_numbered by_name n))) superclasses

-- a type of these superclass names and interface names uses a name to which it has no link
abbrev pub lacks_link : List TypeHead → List (Option ℕ) → List ℕ → List ℕ → Bool
lacks_link heads by_name superclasses interfaces =
    lacks_interface heads by_name superclasses interfaces || lacks_superclass heads by_name superclasses interfaces

-- a mark for each type, which is set where the type or one above it uses a name to which it has no link
pub record AreGaps (types : List Placed) (marks : List Bool) : Type 0 where
  pub long : length marks ≡ length types
  pub each : (x : ℕ) (t : Placed) → HasTypeAt types x t
      → slice_index_or marks x false ≡ (uses_unlinked_name types t || list_any (uses_unlinked_name types) (above types t))
