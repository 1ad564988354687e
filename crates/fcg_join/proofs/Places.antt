-- Types by their places.
use Rattle.std.proofs.Common.{◌≡◌, ℕ, zero, suc, List, [], ◌∷◌, length, refl, sym, ap, ◌∙◌}
use Rattle.std.specs.Prelude.{true, false, Contains}
use Rattle.std.specs.List.{IsDistinct}
use Rattle.std.proofs.lemmas.Option.{slice_get_within, slice_get_read, get_or_from_slice_get}
use Rattle.fcg_analysis.specs.Declarations.{Placed, is_type}
use Rattle.fcg_join.specs.TypeLinks.{HasTypeAt}
use Rattle.fcg_analysis.proofs.General.Members.{IsIn, IsIn-from_Contains}
use Rattle.fcg_analysis.proofs.General.Sorted.{in_all}
use Rattle.fcg_analysis.proofs.WinnerLaws.{is_type_self}

pub place_of : (types : List Placed) (t : Placed) → Contains types t → (x : ℕ) × HasTypeAt types x t
place_of types t c = (c.0, slice_get_read types (length types) c.0 t refl c.1 (sym c.2))

pub has_in : (types : List Placed) (x : ℕ) (t : Placed) → HasTypeAt types x t → Contains types t
has_in types x t h = (x, slice_get_within types x t h, get_or_from_slice_get types x t t h)

-- a type has one place in a list of distinct names
pub one_place : (types : List Placed) (x y : ℕ) (t : Placed) → IsDistinct is_type types → HasTypeAt types x t → HasTypeAt types y t → x ≡ y
unfolding IsDistinct
one_place [] x y t d h k = absurd (cc)
one_place (a ∷ types) zero zero t d h k = refl
one_place (a ∷ types) (suc x) (suc y) t d h k = ap suc (one_place types x y t d.1 h k)
one_place (a ∷ types) zero (suc y) t d h k = absurd (
    let i : IsIn t types = IsIn-from_Contains types t (has_in types y t k) in
    let off : is_type a t ≡ false = in_all (λ u. is_type a u ≡ false) types t d.0 i in
    let same : a ≡ t = cc in
    let on : is_type a t ≡ true = ap (is_type a) (sym same) ∙ is_type_self a in
    cc)
one_place (a ∷ types) (suc x) zero t d h k = absurd (
    let i : IsIn t types = IsIn-from_Contains types t (has_in types x t h) in
    let off : is_type a t ≡ false = in_all (λ u. is_type a u ≡ false) types t d.0 i in
    let same : a ≡ t = cc in
    let on : is_type a t ≡ true = ap (is_type a) (sym same) ∙ is_type_self a in
    cc)
